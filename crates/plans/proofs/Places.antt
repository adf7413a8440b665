-- The places of a plan, filled from the front. Assumes nothing.
use Rattle.std.proofs.Common.{◌≡◌, ℕ, zero, suc, ◌<◌, true, List, [], ◌∷◌, ◌++◌, length, set, Some, None, Option, refl, ap, arith}
use Rattle.streams.specs.Meaning.{Meaning}
use Rattle.plans.specs.declared.plan.Task.{Task}
use Rattle.plans.specs.Packed.{packed, all_free}
use Rattle.plans.specs.Tasks.{task_view, task_views}

module _ {S : Type 0} (meaning : S → Meaning) where
  pub free_none : (xs : List (Option (Task S))) → all_free xs ≡ true → task_views meaning xs ≡ []
  free_none [] h = refl
  free_none (None ∷ xs) h = refl
  free_none (Some x ∷ xs) h = let z : ◌≡◌ {A = ℕ} 0 1 = cc in elim (let no : ⊥ = omega arith in no) [ ]

  free_packed : (ys : List (Option (Task S))) → all_free ys ≡ true → packed ys ≡ true
  free_packed [] q = refl
  free_packed (None ∷ ys) q = q
  free_packed (Some y ∷ ys) q = let z : ◌≡◌ {A = ℕ} 0 1 = cc in elim (let no : ⊥ = omega arith in no) [ ]

  pub record Put (xs : List (Option (Task S))) (i : ℕ) (t : Task S) : Type 0 where
    pub put_task_views : task_views meaning (set xs i (Some t)) ≡ task_views meaning xs ++ (task_view meaning t ∷ [])
    pub put_packed : packed (set xs i (Some t)) ≡ true

  -- a task put into the first free place
  pub put : (xs : List (Option (Task S))) (i : ℕ) (t : Task S) → i < length xs → i ≡ length (task_views meaning xs) → packed xs ≡ true → Put xs i t
  put [] i t h e p = elim (let no : ⊥ = omega arith in no) [ ]
  put (None ∷ xs) zero t h e p = record { put_task_views = ap (λ ds. task_view meaning t ∷ ds) (free_none xs p); put_packed = free_packed xs p }
  put (None ∷ xs) (suc i) t h e p = elim (let no : ⊥ = omega arith in no) [ ]
  put (Some x ∷ xs) zero t h e p = elim (let no : ⊥ = omega arith in no) [ ]
  put (Some x ∷ xs) (suc i) t h e p =
      let r = put xs i t (omega arith) (omega arith) p in
      record { put_task_views = ap (λ ds. task_view meaning x ∷ ds) r.put_task_views; put_packed = r.put_packed }
