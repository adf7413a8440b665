-- Lines of the first tasks. Assumes nothing.
use Rattle.std.proofs.Common.{◌≡◌, ℕ, zero, suc, ◌≤◌, List, ◌++◌, length, take, get_or, refl, ap, ◌∙◌, arith}
use Rattle.std.proofs.lemmas.List.{get_or-take, length-take-le}
use Rattle.exploration.specs.declared.Times.{Times}
use Rattle.exploration.specs.Table.{no_times}
use Rattle.table.specs.View.{times_of}
use Rattle.listing.specs.Lines.{task_line, task_lines}

-- They read the first times alone.
first_lines : (ts : List Times) (n m : ℕ) → m ≤ n → task_lines (times_of (take n ts)) m ≡ task_lines (times_of ts) m
first_lines ts n zero h = refl
first_lines ts n (suc m) h =
    let e : get_or (take n ts) m (no_times 0) ≡ get_or ts m (no_times 0) = get_or-take n ts m (no_times 0) (omega arith) in
    let before = first_lines ts n m (omega arith) in
    λ i. before i ++ task_line (suc m) (e i)

pub tasks_first : (ts : List Times) (n : ℕ) → n ≤ length ts → task_lines (times_of (take n ts)) (length (take n ts)) ≡ task_lines (times_of ts) n
tasks_first ts n h = ap (task_lines (times_of (take n ts))) (length-take-le n ts h) ∙ first_lines ts n n (omega arith)
