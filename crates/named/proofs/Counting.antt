-- A list that has each thing once is no longer than one that has them all. Assumes nothing.
use Rattle.std.proofs.Common.{◌≡◌, ℕ, suc, ◌≤◌, ◌⊎◌, List, [], ◌∷◌, length, sym, refl, ap, ◌∙◌, inl, inr, arith}
use Rattle.exploration.specs.Lists.{In, EachOnce}

-- The list without the place where y stands.
pub record Without {A : Type 0} (y : A) (ys : List A) : Type 0 where
  pub rest : List A
  pub shorter : length ys ≡ suc (length rest)
  pub holds : (z : A) → In z ys → (y ≡ z) ⊎ In z rest

without : {A : Type 0} (y : A) (ys : List A) → In y ys → Without y ys
without y [] h = absurd h
without y (x ∷ ys) (inl e) = record { rest = ys; shorter = refl; holds = λ z h. elim h [ inl q ↦ inl (sym e ∙ q) | inr i ↦ inr i ] }
without y (x ∷ ys) (inr h) =
    let w = without y ys h in
    record {
      rest = x ∷ w.rest;
      shorter = ap suc w.shorter;
      holds = λ z i. elim i [ inl q ↦ inr (inl q) | inr j ↦ elim (w.holds z j) [ inl q ↦ inl q | inr k ↦ inr (inr k) ] ];
    }

pub no_longer : {A : Type 0} (xs ys : List A) → EachOnce xs → ((x : A) → In x xs → In x ys) → length xs ≤ length ys
no_longer [] ys once all = omega arith
no_longer (x ∷ xs) ys once all =
    let w = without x ys (all x (inl refl)) in
    let l = no_longer xs w.rest once.1 (λ z i. elim (w.holds z (all z (inr i))) [ inl q ↦ absurd (once.0 (rw q i)) | inr k ↦ k ]) in
    omega (arith, w.shorter)
