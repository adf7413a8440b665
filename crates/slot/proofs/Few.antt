-- A work-conserving rule picks one of the tasks that it sees, or 0. Assumes nothing.
use Rattle.std.proofs.Common.{◌≡◌, ℕ, zero, suc, ◌<◌, ◌≤◌, true, false, ◌⊎◌, List, [], ◌∷◌, length, take, is_some, refl, inl, inr, arith, length-take}
use borrow.Author.Tests.{clash}
use Rattle.std.proofs.lemmas.Bool.{cases_Bool}
use Rattle.dispatch.specs.declared.Seen.{Seen}
use Rattle.dispatch.specs.Picks.{Picks, WorkConserving, job_at, has_job}

inside : (ts : List Seen) (i : ℕ) → job_at ts i ≡ true → i < length ts
inside [] i e = absurd (clash e)
inside (t ∷ ts) zero e = omega arith
inside (t ∷ ts) (suc i) e = let h = inside ts i e in omega arith

within : (ts : List Seen) (n : ℕ) → has_job ts n ≡ true → n ≤ length ts
within ts zero e = omega arith
within ts (suc i) e = let h = inside ts i e in omega arith

some_job : (ts : List Seen) → ((i : ℕ) × (job_at ts i ≡ true)) ⊎ ((i : ℕ) → job_at ts i ≡ false)
some_job [] = inr (λ i. refl)
some_job (t ∷ ts) =
    elim (cases_Bool (is_some t.age)) [
      | inl y ↦ inl (0, y)
      | inr n ↦ elim (some_job ts) [ inl h ↦ inl (suc h.0, h.1) | inr h ↦ inr (both n h) ]
    ]
  where
    both : is_some t.age ≡ false → ((i : ℕ) → job_at ts i ≡ false) → (i : ℕ) → job_at (t ∷ ts) i ≡ false
    both n h zero = n
    both n h (suc i) = h i

no_one : (ts : List Seen) → ((i : ℕ) → job_at ts i ≡ false) → (n : ℕ) → has_job ts n ≡ false
no_one ts h zero = refl
no_one ts h (suc i) = h i

picks_few : (picks : Picks) → WorkConserving picks → (ts : List Seen) (last : ℕ) → picks ts last ≤ length ts
picks_few picks conserves ts last =
    elim (some_job ts) [
      | inl h ↦ within ts (picks ts last) (conserves.busy ts last (suc h.0) h.1)
      | inr h ↦ let z = conserves.idle ts last (no_one ts h) in omega arith
    ]

-- so of eight places it picks a number up to 8
pub picked_few : (picks : Picks) → WorkConserving picks → (n : ℕ) (ts : List Seen) (last k : ℕ) → length ts ≡ 8 → k ≡ picks (take n ts) last → k ≤ 8
picked_few picks conserves n ts last k long e =
    let h = picks_few picks conserves (take n ts) last in
    let l = length-take n ts in
    omega arith
