-- What a call answered, by what `map_err` made of it. Assumes nothing.
use Rattle.std.proofs.Common.{◌≡◌, Ok, Err, Result, refl, ap, ◌∙◌, sym}
use Rattle.std.specs.Result.{MatchResult, IsErrAnd}

module _ {A E D : Type 0} (P : E → D → Type 0) where
  pub was_ok : (r : Result A E) (m : Result A D) (x : A) → MatchResult r (λ y. m ≡ Ok y) (λ e. IsErrAnd m (P e)) → m ≡ Ok x → r ≡ Ok x
  was_ok (Ok y) m x by e = let same : y ≡ x = cc in ap (λ z. Ok z) same
  was_ok (Err f) (Ok y) x by e = absurd by
  was_ok (Err f) (Err d) x by e = let none : ⊥ = cc in absurd none

  -- Where the closure makes `made` of an error.
  pub was_err : (made : E → D) → ((f : E) (d : D) → P f d → d ≡ made f) → (r : Result A E) (m : Result A D) (d : D) →
      MatchResult r (λ y. m ≡ Ok y) (λ e. IsErrAnd m (P e)) → m ≡ Err d → (f : E) × (r ≡ Err f) × (d ≡ made f)
  was_err made says (Ok y) m d by e = let none : ⊥ = cc in absurd none
  was_err made says (Err f) (Ok y) d by e = absurd by
  was_err made says (Err f) (Err k) d by e = let same : k ≡ d = cc in (f, refl, sym same ∙ says f k by)
