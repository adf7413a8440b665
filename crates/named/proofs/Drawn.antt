-- Evidence for the sample plan, by the history of a table that takes it. Assumes nothing.
use Rattle.std.proofs.Common.{◌≡◌, ℕ, Bool, false, List, [], ◌∷◌, ◌++◌, map, length, refl, arith}
use Rattle.slot.specs.Slot.{StateView}
use Rattle.exploration.specs.declared.Row.{Row}
use Rattle.exploration.specs.declared.Record.{Record}
use Rattle.exploration.specs.declared.Record.TheVariants.{Grow}
use Rattle.exploration.specs.System.{System}
use Rattle.exploration.specs.Table.{Table, opened, opened_rows}
use Rattle.exploration.specs.Calls.{taken}
use Rattle.exploration.specs.History.{History, opens, takes, full_after}
use Rattle.exploration.specs.Taking.{table_after, rows_after}
use Rattle.exploration.specs.Laws.{Laws}
use Rattle.exploration.proofs.Laws.{history_laws}
use Rattle.evidence.specs.Wire.{written}
use Rattle.evidence.specs.Calls.{Spell, step_into}
use Rattle.evidence.specs.History.{ByteHistory}
use Rattle.evidence.specs.History as bytes
use Rattle.named.specs.Evidence.{sample_system, other_order, EvidenceExists, HistoryExists}
use Rattle.named.proofs.Counting.{no_longer}

-- The records taken and the flag, after further records.
abbrev kept_after : List Record → List Record → Table → List (Row StateView) → List Record
kept_after [] kept t rows = kept
kept_after (r ∷ rs) kept t rows =
    kept_after rs (kept ++ (taken sample_system r t rows).records) (taken sample_system r t rows).table (taken sample_system r t rows).rows

abbrev flag_after : List Record → Bool → Table → List (Row StateView) → Bool
flag_after [] full t rows = full
flag_after (r ∷ rs) full t rows =
    flag_after rs (full_after full (taken sample_system r t rows).answer) (taken sample_system r t rows).table (taken sample_system r t rows).rows

all_taken : (rs kept : List Record) (full : Bool) (t : Table) (rows : List (Row StateView)) → History sample_system kept full t rows →
    History sample_system (kept_after rs kept t rows) (flag_after rs full t rows) (table_after sample_system rs t rows) (rows_after sample_system rs t rows)
all_taken [] kept full t rows h = h
all_taken (r ∷ rs) kept full t rows h = all_taken rs _ _ _ _ (takes h r)

abbrev last_table : Table
last_table = table_after sample_system other_order (opened sample_system 6) (opened_rows sample_system)

abbrev last_rows : List (Row StateView)
last_rows = rows_after sample_system other_order (opened sample_system 6) (opened_rows sample_system)

laws : Laws sample_system other_order false last_table last_rows
laws =
    history_laws StateView sample_system other_order false last_table last_rows
    (all_taken other_order [] false (opened sample_system 6) (opened_rows sample_system) (opens {size = 6} (omega arith)))

pub evidence_exists : EvidenceExists
evidence_exists =
    let c = laws.table_law.complete_table refl in
    record {
      tasks = refl;
      never_late = c.never_late;
      enough = λ ss once reach.
          let l = no_longer ss c.counts.0 once (λ s i. c.counts.1.1 s (reach s i)) in omega (arith, c.counts.2);
      drawn_up = laws.records_law.whole refl;
    }

-- one more step, with what it wrote
abbrev step : {kept : List (List ℕ)} {full : Bool} {t : Table} {rows : List (Row StateView)} → ByteHistory sample_system kept full t rows → Type 0
step {kept} {full} {t} {rows} h = Spell (map written (step_into sample_system 32 t rows).records) (step_into sample_system 32 t rows).records →
    ByteHistory sample_system (kept ++ map written (step_into sample_system 32 t rows).records) (full_after full (step_into sample_system 32 t rows).answer)
    (step_into sample_system 32 t rows).table (step_into sample_system 32 t rows).rows

stepped_on : {kept : List (List ℕ)} {full : Bool} {t : Table} {rows : List (Row StateView)} (h : ByteHistory sample_system kept full t rows) → step h
stepped_on {kept} {full} {t} {rows} h s = bytes.steps h 32 (map written (step_into sample_system 32 t rows).records) s

pub history_exists : HistoryExists
history_exists =
    let h = bytes.takes (bytes.takes (bytes.opens {size = 5} (omega arith)) (written (Grow 1 0))) (written (Grow 1 0)) in
    let h₂ = stepped_on (stepped_on h (refl, tt)) (refl, tt) in
    let h₆ = stepped_on (stepped_on (stepped_on (stepped_on h₂ (refl, (refl, tt))) (refl, (refl, tt))) (refl, (refl, tt))) (refl, tt) in
    record { kept = _; history = stepped_on h₆ tt; refused_take = refl; refused_step = refl; walked = refl }
