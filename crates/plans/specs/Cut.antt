-- Bytes cut into pieces of one size, of which a shorter rest is the last.
use Rattle.std.specs.Prelude.{ℕ, zero, suc, List, [], ◌∷◌, take, drop}

-- The first n pieces.
abbrev pub pieces : ℕ → ℕ → List ℕ → List (List ℕ)
pieces size zero bs = []
pieces size (suc n) [] = []
pieces size (suc n) (b ∷ bs) = take size (b ∷ bs) ∷ pieces size n (drop size (b ∷ bs))
