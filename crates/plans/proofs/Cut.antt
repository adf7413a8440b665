-- Bytes cut into pieces, one by one. Assumes nothing.
use Rattle.std.proofs.Common.{◌≡◌, ℕ, zero, suc, ◌<◌, ◌≤◌, min, List, [], ◌∷◌, ◌++◌, length, take, drop, sym, refl, ap, ◌∙◌, subst, append-nil, arith, length-append, length-drop, take_all}
use native.Mathlib.Decide.{dec_le}
use native.Mathlib.Nat.{min-eq_left, min-eq_right}
use lib.Seq.{take-append_seam, drop-append_seam}
use Rattle.std.proofs.lemmas.List.{drop_all, nil_from_length}
use Rattle.plans.specs.Cut.{pieces}

pub no_piece : (size n : ℕ) (bs : List ℕ) → length bs ≡ 0 → pieces size n bs ≡ []
no_piece size zero bs e = refl
no_piece size (suc n) [] e = refl
no_piece size (suc n) (b ∷ bs) e = absurd (omega arith)

-- More pieces than there are is as good.
pub pieces_same : (size m n : ℕ) (bs : List ℕ) → 0 < size → length bs ≤ m → length bs ≤ n → pieces size m bs ≡ pieces size n bs
pieces_same size zero zero bs p h k = refl
pieces_same size zero (suc n) [] p h k = refl
pieces_same size zero (suc n) (b ∷ bs) p h k = absurd (omega arith)
pieces_same size (suc m) zero [] p h k = refl
pieces_same size (suc m) zero (b ∷ bs) p h k = absurd (omega arith)
pieces_same size (suc m) (suc n) [] p h k = refl
pieces_same size (suc m) (suc n) (b ∷ bs) p h k =
    let l = length-drop size (b ∷ bs) in
    ap (λ rs. take size (b ∷ bs) ∷ rs) (pieces_same size m n (drop size (b ∷ bs)) p (omega arith) (omega arith))

-- A front of the size, or a front that is all, is cut off.
cut : (size : ℕ) (x rest : List ℕ) → length x ≡ min size (length (x ++ rest)) → (take size (x ++ rest) ≡ x) × (drop size (x ++ rest) ≡ rest)
cut size x rest l =
    elim (dec_le size (length (x ++ rest))) [
      | yes h ↦
          let k : length x ≡ size = l ∙ min-eq_left h in
          (subst (λ n. take n (x ++ rest) ≡ x) k (take-append_seam x rest), subst (λ n. drop n (x ++ rest) ≡ rest) k (drop-append_seam x rest))
      | no h ↦
          let short : length (x ++ rest) ≤ size = omega arith in
          let none : rest ≡ [] = nil_from_length rest (omega (arith, l ∙ min-eq_right short, length-append x rest)) in
          (take_all size (x ++ rest) short ∙ ap (λ (r : List ℕ). x ++ r) none ∙ append-nil x, drop_all size (x ++ rest) short ∙ sym none)
    ]

-- The first piece and the rest, which is cut on.
pub piece_next : (size n m : ℕ) (x rest bs : List ℕ) → n ≡ suc m → bs ≡ x ++ rest → length x ≡ min size (length bs) → 0 < length bs → pieces size n bs ≡ x ∷ pieces size m rest
piece_next size n m x rest [] k e l h = absurd (omega arith)
piece_next size n m x rest (b ∷ bs) k e l h =
    let c = cut size x rest (l ∙ ap (λ (z : List ℕ). min size (length z)) e) in
    let first : take size (b ∷ bs) ≡ x = ap (take size) e ∙ c.0 in
    let then : drop size (b ∷ bs) ≡ rest = ap (drop size) e ∙ c.1 in
    ap (λ (j : ℕ). pieces size j (b ∷ bs)) k ∙ (λ i. first i ∷ pieces size m (then i))
