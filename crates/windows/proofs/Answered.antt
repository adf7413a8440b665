-- What the reading of a window says of the plan's runs. Assumes nothing.
use Rattle.std.proofs.Common.{◌≡◌, ℕ, Bool, true, false, cond, List, Some, None, Ok, Err, Option, Result, sym, refl, ◌∙◌, subst, inl, inr, arith}
use Rattle.refusals.specs.declared.Fault.{Fault}
use Rattle.dispatch.specs.Picks.{Picks}
use Rattle.plans.specs.Tasks.{TaskView}
use Rattle.slot.specs.declared.state.State.{State}
use Rattle.slot.specs.Slot.{StateView, state_view}
use Rattle.runs.specs.Response.{ResponseLaw}
use Rattle.exploration.specs.declared.Row.{Row}
use Rattle.exploration.specs.declared.Shown.{Shown}
use Rattle.exploration.specs.declared.Stage.{Stage}
use Rattle.exploration.specs.declared.Stage.TheVariants.{Walking, Complete, Late}
use Rattle.exploration.specs.Table.{Table}
use Rattle.exploration.specs.Truth.{AtLeast, AtMost}
use Rattle.table.specs.declared.numbers.Numbers.{Numbers}
use Rattle.table.specs.View.{table_of}
use Rattle.schedule.specs.PlanSystem.{plan_system}
use Rattle.evidence.specs.Opening.{ReadsKept}
use Rattle.windows.specs.declared.window.Window.{Window}
use Rattle.windows.specs.Window.{ShownByRun, WindowLaw}
use Rattle.windows.specs.Reading.{both_times, window_at, window_in, window_read, Says, WindowsKept, SaysKept}
use Rattle.windows.proofs.KeptWindows.{window_law}

module _ (ts : List TaskView) (picks : Picks) (t : Table) (rows : List (Row StateView)) (law : WindowLaw ts picks t rows) (k : ℕ) where
  both_say : t.stage ≡ Complete → (x y : Option Shown) → (t.times k).least ≡ x → (t.times k).greatest ≡ y →
      Says ts picks Complete k (both_times x y)
  both_say s None y ex ey = λ _. (law.complete_table s).none k (inl ex)
  both_say s (Some x) None ex ey = λ _. (law.complete_table s).none k (inr ey)
  both_say s (Some x) (Some y) ex ey =
      let low = subst (ShownByRun ts picks rows k) ex (law.least k) in
      let high = subst (ShownByRun ts picks rows k) ey (law.greatest k) in
      record {
        never_late = (law.complete_table s).never_late;
        within = λ ws trace end r n v h.
            let q = (law.complete_table s).within k ws trace end r n v h in
            (subst (λ o. AtLeast o v) ex q.0, subst (λ o. AtMost o v) ey q.1);
        least = (low.0, low.2);
        greatest = (high.0, high.2);
      }

  stage_says : (s : Stage) → t.stage ≡ s → Says ts picks s k (window_at s (t.times k))
  stage_says Walking h = λ q. let z : ◌≡◌ {A = ℕ} 0 1 = cc in absurd (omega arith)
  stage_says (Late i w j c) h = λ q. let z : ◌≡◌ {A = ℕ} 0 1 = cc in absurd (omega arith)
  stage_says Complete h = both_say h _ _ refl refl

  -- whether or not the table was opened with task k
  answer_says : (b : Bool) (f : Fault) (o : Option Window) → window_in t.stage (cond b (Ok (t.times k)) (Err f)) ≡ Ok o →
      Says ts picks t.stage k o
  answer_says true f o e =
      let q : window_at t.stage (t.times k) ≡ o = cc in
      subst (Says ts picks t.stage k) q (stage_says t.stage refl)
  answer_says false f o e = let z : ◌≡◌ {A = ℕ} 0 1 = cc in absurd (omega arith)

module _ (ts : List TaskView) (picks : Picks) (p : Numbers) (rows : List (Row State)) where
  pub windows_kept : ResponseLaw ts picks → ReadsKept state_view (plan_system ts picks) p rows → WindowsKept ts picks p rows
  windows_kept law reads = λ kept full h. window_law ts picks law full _ _ (reads kept full h).laws.table_law

  pub says_kept : WindowsKept ts picks p rows → (k : ℕ) (r : Result (Option Window) Fault) → r ≡ window_read p k →
      SaysKept ts picks p rows k r
  says_kept windows k r v = λ kept full h o e. answer_says ts picks (table_of p) _ (windows kept full h) k _ _ o (sym v ∙ e)
