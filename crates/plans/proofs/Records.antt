-- The records of a plan, one by one. Assumes nothing.
use Rattle.std.proofs.Common.{◌≡◌, ℕ, ◌+◌, ◌-◌, ◌<◌, ◌≤◌, min, true, ltb, List, [], ◌∷◌, ◌++◌, length, is_err, IsErrAnd, Ok, Err, Result, sym, refl, ap, ◌∙◌, inl, inr, arith, length-append}
use Rattle.std.proofs.lemmas.Bool.{cases_Bool}
use Rattle.refusals.specs.declared.Fault.{Fault}
use Rattle.streams.specs.declared.either.Either.{Either}
use Rattle.streams.specs.declared.periodic.Periodic.{Periodic}
use Rattle.streams.specs.declared.sporadic.Sporadic.{Sporadic}
use Rattle.plans.specs.declared.plan.Plan.{Plan}
use Rattle.plans.specs.Tasks.{TaskView}
use Rattle.plans.specs.Adding.{adding, AddedSo}
use Rattle.plans.proofs.Cut.{piece_next}
use Rattle.plans.specs.Record.{read_record, records, add_records, ReadsPlan}

-- what was added, by the answer
pub added_err : (U : Type 0) (after : List TaskView) (f : Fault) (x : Result (List TaskView) Fault) → AddedSo {U = U} after (Err f) x → x ≡ Err f
added_err U after f (Ok ts) h = let e = h.0 in let z : ◌≡◌ {A = ℕ} 0 1 = cc in elim (let no : ⊥ = omega arith in no) [ ]
added_err U after f (Err g) h = let e : f ≡ g = cc in ap Err (sym e)

pub added_ok : (U : Type 0) (after : List TaskView) (u : U) (x : Result (List TaskView) Fault) → AddedSo {U = U} after (Ok u) x → x ≡ Ok after
added_ok U after u (Ok ts) h = ap Ok (sym h.1)
added_ok U after u (Err g) h = let z : ◌≡◌ {A = ℕ} 0 1 = cc in elim (let no : ⊥ = omega arith in no) [ ]

pub one_more : (ts after : List TaskView) (x : Result TaskView Fault) → adding ts x ≡ Ok after → length after ≡ length ts + 1
one_more ts after (Err f) h = let z : ◌≡◌ {A = ℕ} 0 1 = cc in elim (let no : ⊥ = omega arith in no) [ ]
one_more ts after (Ok t) h =
    elim (cases_Bool (ltb (length ts) 8)) [
      | inl y ↦
          let h' : Ok (ts ++ (t ∷ [])) ≡ Ok after = rw y at h in
          let e : ts ++ (t ∷ []) ≡ after = cc in
          rw (sym e, length-append ts (t ∷ [])) refl
      | inr y ↦
          let h' : Err _ ≡ Ok after = rw y at h in
          let z : ◌≡◌ {A = ℕ} 0 1 = cc in elim (let no : ⊥ = omega arith in no) [ ]
    ]

pub refused_stays : (f : Fault) (rs : List (List ℕ)) → add_records (Err f) rs ≡ Err f
refused_stays f [] = refl
refused_stays f (r ∷ rs) = refused_stays f rs

-- one record more, from a plan of some tasks on
pub record_next : (ts : List TaskView) (x rest bs : List ℕ) (size : ℕ) → length ts ≤ 8 → size ≡ 24 → bs ≡ x ++ rest → length x ≡ min size (length bs) → 0 < length bs →
    add_records (Ok ts) (records (9 - length ts) bs) ≡ add_records (adding ts (read_record (length ts + 1) x)) (records (8 - length ts) rest)
record_next ts x rest bs size few s e l h =
    ap (add_records (Ok ts)) (piece_next 24 (9 - length ts) (8 - length ts) x rest bs (omega arith) e (l ∙ ap (λ (n : ℕ). min n (length bs)) s) h)

-- a fault that `?` hands on is the answer
pub reads_err : (r : Result (Plan (Either Periodic Sporadic)) Fault) (f : Fault) (x : Result (List TaskView) Fault) → is_err r ≡ true → IsErrAnd r (λ y. y ≡ f) →
    x ≡ Err f → ReadsPlan r x
reads_err (Ok p) f x e b h = let z : ◌≡◌ {A = ℕ} 0 1 = cc in elim (let no : ⊥ = omega arith in no) [ ]
reads_err (Err g) f x e b h = h ∙ ap Err (sym b)
