-- A run is replayed way by way. Assumes nothing.
use Rattle.std.proofs.Common.{◌≡◌, ℕ, ◌+◌, ◌<◌, List, [], ◌∷◌, ◌++◌, length, get_or, take, set, Option, refl, ap, ◌∙◌, add-one, take-suc-set}
use Rattle.std.proofs.lemmas.List.{take_more}
use Rattle.dispatch.specs.Picks.{Picks}
use Rattle.outcome.specs.declared.Cause.{Cause}
use Rattle.outcome.specs.declared.Ended.{Ended}
use Rattle.slot.specs.declared.event.Event.{Event}
use Rattle.plans.specs.Tasks.{TaskView}
use Rattle.outcome.specs.declared.Outcome.TheVariants.{Late as late, Next as next}
use Rattle.slot.specs.Slot.{StateView, slot, event}
use Rattle.runs.specs.Run.{Ending, ends_in, ends_late, RunFrom, empty, last_late, way_then}

module _ (ts : List TaskView) (picks : Picks) where
  -- a run that reached a state goes on with one more way
  pub run_next : {m : StateView} {ways : List ℕ} {trace : List Event} {end : Ending} (s s' : StateView) (w : ℕ) (e : Option Ended) → RunFrom ts picks m ways trace end → end ≡ ends_in s →
      slot ts picks s w ≡ next s' e → RunFrom ts picks m (ways ++ (w ∷ [])) (trace ++ (event ts picks s w ∷ [])) (ends_in s')
  run_next s s' w e (empty {m = m}) is h =
      let q : m ≡ s = cc in
      rw q (way_then h empty)
  run_next s s' w e (last_late g) is h = absurd (cc)
  run_next s s' w e (way_then g r) is h = way_then g (run_next s s' w e r is h)

  -- or ends late with it
  pub run_late : {m : StateView} {ways : List ℕ} {trace : List Event} {end : Ending} (s : StateView) (w k : ℕ) (c : Cause) (e : Option Ended) → RunFrom ts picks m ways trace end → end ≡ ends_in s →
      slot ts picks s w ≡ late k c e → RunFrom ts picks m (ways ++ (w ∷ [])) (trace ++ (event ts picks s w ∷ [])) (ends_late k c)
  run_late s w k c e (empty {m = m}) is h =
      let q : m ≡ s = cc in
      rw q (last_late h)
  run_late s w k c e (last_late g) is h = absurd (cc)
  run_late s w k c e (way_then g r) is h = way_then g (run_late s w k c e r is h)

  -- the same, where the ways and the trace are the first i of longer lists
  module _ (m : StateView) (ways : List ℕ) (trace : List Event) (i : ℕ) (s : StateView) (v : Event)
      (in-ways : i < length ways) (in-trace : i < length trace)
      (r : RunFrom ts picks m (take i ways) (take i trace) (ends_in s)) (is : v ≡ event ts picks s (get_or ways i 0)) where
    front_ways : take (i + 1) ways ≡ take i ways ++ (get_or ways i 0 ∷ [])
    front_ways = take_more ways i 0 in-ways

    front_trace : take (i + 1) (set trace i v) ≡ take i trace ++ (event ts picks s (get_or ways i 0) ∷ [])
    front_trace = rw add-one (take-suc-set trace i v in-trace) ∙ ap (λ x. take i trace ++ (x ∷ [])) is

    pub replay_next : (s' : StateView) (e : Option Ended) → slot ts picks s (get_or ways i 0) ≡ next s' e →
        RunFrom ts picks m (take (i + 1) ways) (take (i + 1) (set trace i v)) (ends_in s')
    replay_next s' e h = rw (front_ways, front_trace) (run_next s s' (get_or ways i 0) e r refl h)

    pub replay_late : (k : ℕ) (c : Cause) (e : Option Ended) → slot ts picks s (get_or ways i 0) ≡ late k c e →
        RunFrom ts picks m (take (i + 1) ways) (take (i + 1) (set trace i v)) (ends_late k c)
    replay_late k c e h = rw (front_ways, front_trace) (run_late s (get_or ways i 0) k c e r refl h)
