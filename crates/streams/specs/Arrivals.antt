-- What a slot may bring, and the ways that bring it. Assumes nothing.
use Rattle.std.specs.Prelude.{◌≡◌, ℕ, ◌<◌, ◌≤◌, Bool, true, false, cond, refl}
use Rattle.std.proofs.Common.{sym, arith}
use Rattle.std.proofs.lemmas.Bool.{ne_eqb}
use Rattle.streams.specs.Places.{Arrival, none, may, must, ways_of, falls}

-- the slot may bring this
abbrev pub Allows : Arrival → Bool → Type 0
Allows none b = b ≡ false
Allows may b = Unit {0}
Allows must b = b ≡ true

pub falls_allowed : (e : Arrival) (w : ℕ) → Allows e (falls e w)
falls_allowed none w = refl
falls_allowed may w = tt
falls_allowed must w = refl

-- a way that brings this
abbrev pub pick : Arrival → Bool → ℕ
pick none b = 0
pick may b = cond b 1 0
pick must b = 0

pub pick_exists : (e : Arrival) (b : Bool) → pick e b < ways_of e
pick_exists none b = omega arith
pick_exists may true = omega arith
pick_exists may false = omega arith
pick_exists must b = omega arith

pub pick_falls : (e : Arrival) (b : Bool) → Allows e b → falls e (pick e b) ≡ b
pick_falls none b h = sym h
pick_falls may true h = refl
pick_falls may false h = refl
pick_falls must b h = sym h

-- there are one or two ways, and an absent one brings what way 0 does
pub some_of : (e : Arrival) → 1 ≤ ways_of e
some_of none = omega arith
some_of may = omega arith
some_of must = omega arith

pub few_of : (e : Arrival) → ways_of e ≤ 4
few_of none = omega arith
few_of may = omega arith
few_of must = omega arith

pub absent_of : (e : Arrival) (w : ℕ) → ways_of e ≤ w → falls e w ≡ falls e 0
absent_of none w h = refl
absent_of may w h = ne_eqb w 1 (λ z. omega arith)
absent_of must w h = refl
