-- What the listings of the named plans say.
use Rattle.std.specs.Prelude.{◌≡◌, ℕ, List, [], ◌∷◌, ◌++◌, take, codes}
use Rattle.exploration.specs.declared.Claim.TheVariants.{Target}
use Rattle.exploration.specs.declared.Record.{Record}
use Rattle.exploration.specs.declared.Record.TheVariants.{Grow, Walk}
use Rattle.evidence.specs.Wire.{written}
use Rattle.evidence.specs.Keeping.{all_written}
use Rattle.dispatch.specs.Picks.{Picks, by_priority, keeping}
use Rattle.listing.specs.Listing.{listing_of}
use Rattle.named.specs.Evidence.{other_order}
use Rattle.named.specs.Plans.{full, sample, overloaded, jittered, crowded, preempting, twins}

-- A plan with evidence for it, under a dispatch rule, in a table of so many rows, and its listing.
pub record Case : Type 0 where
  pub plan : List ℕ
  pub evidence : List ℕ
  pub rule : Picks
  pub rows : ℕ
  pub listing : List ℕ

-- Lines of text, each ended by byte 10.
abbrev pub text : List (List ℕ) → List ℕ
text [] = []
text (l ∷ ls) = l ++ (10 ∷ text ls)

-- The least and the greatest response time of each task, then the stage, the rows and the ways walked.
abbrev pub full_listed : Case
full_listed = record { plan = full; evidence = []; rule = by_priority; rows = 256; listing = text (codes "1 1 1" ∷ codes "complete 1 2" ∷ []) }

abbrev pub sample_listed : Case
sample_listed =
    record { plan = sample; evidence = []; rule = by_priority; rows = 256; listing = text (codes "1 1 1" ∷ codes "2 2 4" ∷ codes "complete 6 12" ∷ []) }

abbrev pub jittered_listed : Case
jittered_listed =
    record { plan = jittered; evidence = []; rule = by_priority; rows = 256; listing = text (codes "1 2 2" ∷ codes "complete 5 12" ∷ []) }

-- The second task misses its deadline.
abbrev pub overloaded_listed : Case
overloaded_listed =
    record { plan = overloaded; evidence = []; rule = by_priority; rows = 256; listing = text (codes "1 1 1" ∷ codes "2 - -" ∷ codes "late 4 7 2 D" ∷ []) }

-- An arrival meets a job.
abbrev pub crowded_listed : Case
crowded_listed =
    record { plan = crowded; evidence = []; rule = by_priority; rows = 256; listing = text (codes "1 2 2" ∷ codes "late 4 10 1 O" ∷ []) }

-- The short task preempts the long one, unless the rule keeps the last runner.
abbrev pub preempting_listed : Case
preempting_listed =
    record { plan = preempting; evidence = []; rule = by_priority; rows = 256; listing = text (codes "1 1 1" ∷ codes "2 4 4" ∷ codes "complete 9 18" ∷ []) }

abbrev pub kept_listed : Case
kept_listed =
    record { plan = preempting; evidence = []; rule = keeping by_priority; rows = 256; listing = text (codes "1 3 3" ∷ codes "2 3 3" ∷ codes "complete 9 18" ∷ []) }

abbrev pub twins_listed : Case
twins_listed =
    record { plan = twins; evidence = []; rule = by_priority; rows = 256; listing = text (codes "1 1 1" ∷ codes "2 2 2" ∷ codes "complete 4 8" ∷ []) }

-- Five rows are too few for six states: the seventh step is refused.
abbrev pub cramped_listed : Case
cramped_listed =
    record { plan = sample; evidence = []; rule = by_priority; rows = 5; listing = text (codes "1 1 1" ∷ codes "2 2 2" ∷ codes "walking 5 6" ∷ codes "refused S 16 4 0" ∷ []) }

-- Evidence that grows rows in another order than steps do.
abbrev pub other_order_listed : Case
other_order_listed =
    record {
      plan = sample;
      evidence = all_written other_order;
      rule = by_priority;
      rows = 256;
      listing = text (codes "1 1 1" ∷ codes "2 2 4" ∷ codes "complete 6 12" ∷ []);
    }

-- Evidence as far as it goes, and then steps.
abbrev pub partial_listed : Case
partial_listed =
    record {
      plan = sample;
      evidence = all_written (take 9 other_order);
      rule = by_priority;
      rows = 256;
      listing = text (codes "1 1 1" ∷ codes "2 2 4" ∷ codes "complete 6 12" ∷ []);
    }

-- Records that a new table refuses: row 1 has no way 2, its way 1 is void, and its way 0 does not lead back to row 1.
abbrev pub refused_first : Record → List ℕ → Case
refused_first r why =
    record {
      plan = sample;
      evidence = written r;
      rule = by_priority;
      rows = 256;
      listing = text (codes "1 - -" ∷ codes "2 - -" ∷ codes "walking 1 0" ∷ why ∷ []);
    }

abbrev pub AllList : List Case → Type 0
AllList [] = Unit {0}
AllList (c ∷ cs) = (listing_of c.rule c.rows c.plan c.evidence ≡ c.listing) × AllList cs

abbrev pub NamedPlans : Type 0
NamedPlans =
    AllList
    (full_listed ∷ sample_listed ∷ jittered_listed ∷ overloaded_listed ∷ crowded_listed ∷ preempting_listed ∷ kept_listed ∷ twins_listed
    ∷ cramped_listed ∷ other_order_listed ∷ partial_listed ∷ refused_first (Grow 1 2) (codes "refused E 13 1 2")
    ∷ refused_first (Grow 1 1) (codes "refused E 14 1 1") ∷ refused_first (Walk 1 0 (Target 1)) (codes "refused E 18 1 0") ∷ [])
