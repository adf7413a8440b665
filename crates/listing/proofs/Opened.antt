-- The listing of a table that was opened. Assumes nothing.
use Rattle.std.proofs.Common.{◌≡◌, ℕ, ◌≤◌, false, cond, List, [], ◌++◌, length, Err, Option, Result, sym, ap, ◌∙◌, subst, arith, ne_eqb}
use Rattle.refusals.specs.declared.Fault.{Fault}
use Rattle.refusals.specs.declared.Refusal.TheVariants.{PlanEmpty}
use Rattle.dispatch.specs.Picks.{Picks}
use Rattle.plans.specs.Tasks.{TaskView}
use Rattle.slot.specs.Slot.{StateView}
use Rattle.exploration.specs.declared.Row.{Row}
use Rattle.exploration.specs.System.{System}
use Rattle.exploration.specs.Table.{Table, opened, opened_rows}
use Rattle.table.specs.declared.numbers.Numbers.{Numbers}
use Rattle.table.specs.View.{table_of, rows_of}
use Rattle.table.specs.Calls.{new, none, open_of}
use Rattle.evidence.specs.History.{ByteHistory}
use Rattle.evidence.specs.Law.{LawOfKeptTables}
use Rattle.evidence.specs.Keeping.{Kept}
use Rattle.evidence.specs.Opening.{open_plan}
use Rattle.schedule.specs.PlanSystem.{plan_system}
use Rattle.runs.specs.Response.{ResponseLaw}
use Rattle.windows.proofs.KeptWindows.{window_law}
use Rattle.listing.specs.declared.page.Page.{Page}
use Rattle.listing.specs.declared.part.Halt.{Halt}
use Rattle.listing.specs.declared.part.Part.TheVariants.{Plan}
use Rattle.listing.specs.Put.{Put}
use Rattle.listing.specs.Lines.{table_lines, refused_line, halt_lines}
use Rattle.listing.specs.Finish.{Progress, finished}
use Rattle.listing.specs.Bringing.{halt_of, Brings, Ended}
use Rattle.listing.specs.Ending.{PutsBut}
use Rattle.listing.specs.Listing.{opening_lines, RestsOn, PlanRests}
use Rattle.listing.proofs.Puts.{none_put}

-- A plan that does not open is refused, and nothing is put before.
pub not_opened : (picks : Picks) (ts : List TaskView) (evidence : List ℕ) (h : Halt) (f : Fault) (x : Page) → h ≡ record { part = Plan; fault = f } →
    none f ≡ open_plan (plan_system ts picks) 256 → PutsBut {A = Unit {0}} (opening_lines picks 256 evidence ts (open_plan (plan_system ts picks) 256)) (Err h) x x
not_opened picks ts evidence h f x e o =
    record { shown = []; put = none_put x; whole = ap (opening_lines picks 256 evidence ts) (sym o) ∙ ap refused_line (sym e) }

module _ {T : Type 0} (view : T → StateView) (picks : Picks) (ts : List TaskView) (evidence : List ℕ) (t q : Numbers) (rows rows' : List (Row T)) (ended : Result (Unit {0}) Halt) where
  abbrev 𝓢 : System StateView
  𝓢 = plan_system ts picks

  abbrev Opens : Type 0
  Opens = new (table_of t) (rows_of view t.held rows) ≡ open_plan 𝓢 256

  abbrev After : Progress StateView
  After = finished 𝓢 evidence (table_of t) (rows_of view t.held rows)

  -- The lines of the table are the listing, but for the line of the refusal that ended the work.
  pub lined : (x y : Page) → Opens → Brings view 𝓢 After (halt_of ended) t q rows rows' →
      Put (table_lines (table_of q)) x y → PutsBut (opening_lines picks 256 evidence ts (open_plan 𝓢 256)) ended x y
  lined x y o b p =
      record {
        shown = table_lines (table_of q);
        put = p;
        whole = ap (opening_lines picks 256 evidence ts) (sym o) ∙ (λ i. table_lines (sym b.table i) ++ halt_lines (sym b.halt i));
      }

  -- A plan with a task opens.
  opens : 1 ≤ length ts → open_plan 𝓢 256 ≡ new (opened 𝓢 256) (opened_rows 𝓢)
  opens h =
      ap (λ b. cond b (none (record { refusal = PlanEmpty; at = (0, 0) })) (open_of 𝓢 256)) (ne_eqb (length ts) 0 (λ e. omega arith))

  -- What the listing says rests on the law of kept tables.
  pub rests : ResponseLaw ts picks → Opens → Kept view 𝓢 [] false t rows → LawOfKeptTables 𝓢 → Brings view 𝓢 After (halt_of ended) t q rows rows' → Ended (halt_of ended) q.stage → PlanRests picks 256 evidence ts
  rests responses o k law b over some =
      let same : new (table_of t) (rows_of view t.held rows) ≡ new (opened 𝓢 256) (opened_rows 𝓢) = o ∙ opens some in
      let et : table_of t ≡ opened 𝓢 256 = cc in
      let er : rows_of view t.held rows ≡ opened_rows 𝓢 = cc in
      let l = b.leads [] false k.history in
      let h : ByteHistory 𝓢 l.0 l.1 After.table After.rows =
      subst (λ (x : Table). ByteHistory 𝓢 l.0 l.1 x After.rows) b.table (subst (λ (x : List (Row StateView)). ByteHistory 𝓢 l.0 l.1 (table_of q) x) b.held l.2) in
      let e : Ended After.halt After.table.stage =
      subst (λ (x : Option Halt). Ended x After.table.stage) b.halt (subst (λ (x : Table). Ended (halt_of ended) x.stage) b.table over) in
      let kept = law.kept l.0 l.1 After.table After.rows h in
      let r : RestsOn ts picks After =
      record {
        kept = l.0;
        full = l.1;
        history = h;
        law = kept;
        windows = window_law ts picks responses l.1 After.table After.rows kept.laws.table_law;
        ended = e;
      } in
      subst (λ (x : Table). RestsOn ts picks (finished 𝓢 evidence x (opened_rows 𝓢))) et (subst (λ (x : List (Row StateView)). RestsOn ts picks (finished 𝓢 evidence (table_of t) x)) er r)
