-- Every plan is proper. Assumes nothing.
use Rattle.std.proofs.Common.{◌≡◌, ℕ, zero, suc, List, [], ◌∷◌, length, Some, None, Option, sym, arith}
use Rattle.std.specs.List.{slice_get}
use Rattle.streams.specs.Meaning.{Meaning, Sound}
use Rattle.plans.specs.declared.plan.Task.{Task}
use Rattle.plans.specs.Tasks.{TaskView, task_view, task_views}
use Rattle.plans.proofs.Views.{views_few}
use Rattle.runs.specs.Run.{Timed, Proper}

module _ {S : Type 0} (meaning : S → Meaning) (law : (s : S) → Sound (meaning s)) where
  one_of : (ts : List (Option (Task S))) (i : ℕ) (d : TaskView) → slice_get (task_views meaning ts) i ≡ Some d → Timed d × Sound d.stream
  one_of [] i d h = absurd (cc)
  one_of (None ∷ ts) i d h = absurd (cc)
  one_of (Some t ∷ ts) zero d h =
      let e : task_view meaning t ≡ d = cc in
      rw (sym e) (record { some = t.times.some; order = t.times.order; fit = t.times.fit }, law t.stream)
  one_of (Some t ∷ ts) (suc i) d h = one_of ts i d h

  pub proper_plan : (ts : List (Option (Task S))) → length ts ≡ 8 → Proper (task_views meaning ts)
  proper_plan ts h = record {
    few = omega (arith, views_few meaning ts);
    timed = λ i d e. (one_of ts i d e).0;
    sound = λ i d e. (one_of ts i d e).1;
  }
