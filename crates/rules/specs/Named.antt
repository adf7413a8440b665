-- Dispatch rules by name.
use Rattle.std.specs.Prelude.{◌≡◌, ◌≢◌, ℕ, List, Ok, Err, Result, codes}
use Rattle.dispatch.specs.Picks.{Picks, by_priority, by_age, keeping}
use Rattle.rules.specs.declared.Rule.{Rule}
use Rattle.rules.specs.declared.NoSuchRule.{NoSuchRule}
use Rattle.rules.specs.declared.Rule.TheVariants.{Priority, Waiting, KeepingPriority, KeepingWaiting}

-- What each picks.
abbrev pub picks_of : Rule → Picks
picks_of Priority = by_priority
picks_of Waiting = by_age
picks_of KeepingPriority = keeping by_priority
picks_of KeepingWaiting = keeping by_age

-- What each is called.
abbrev pub name_of : Rule → List ℕ
name_of Priority = codes "priority"
name_of Waiting = codes "waiting"
name_of KeepingPriority = codes "keeping-priority"
name_of KeepingWaiting = codes "keeping-waiting"

-- The rule that has the name, or else none has it.
abbrev pub IsNamed : List ℕ → Result Rule NoSuchRule → Type 0
IsNamed name (Ok rule) = name_of rule ≡ name
IsNamed name (Err e) = (rule : Rule) → name_of rule ≢ name

-- What a user is told who gives a name that none has.
abbrev pub none_of : List ℕ
none_of = codes "the rules are priority, waiting, keeping-priority and keeping-waiting"
