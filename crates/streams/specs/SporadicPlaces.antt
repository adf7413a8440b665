-- The places of kind S: each has its number, and some run comes to it. Assumes nothing.
use Rattle.std.specs.Prelude.{◌≡◌, ℕ, zero, suc, ◌-◌, ◌<◌, ◌≤◌, Bool, true, false, nat_eq, nat_le, refl}
use Rattle.std.proofs.Common.{ap, arith}
use Rattle.std.proofs.lemmas.Bool.{both_ways, leb-true, eq-eqb, and_parts}
use Rattle.std.proofs.lemmas.Bool.Decides.{nat_tests}
use Rattle.streams.specs.Parameters.{slot_limit}
use Rattle.streams.specs.Places.{Places}
use Rattle.streams.specs.Sporadic.{Place, count, gap, is_place, arrival, next, number, place, sporadic_places}
use Rattle.streams.specs.Arrivals.{Allows}
use Rattle.streams.specs.Kind.{Comes, comes_next, idle, comes_idle}
use Rattle.streams.specs.SporadicSlots.{counting}

module _ (a b o : ℕ) (ha : 1 ≤ a) (hb : a ≤ b) where
  abbrev k : Places Place
  k = sporadic_places a b o

  pub stays : (q : Place) (x : Bool) → is_place b o q ≡ true → Allows (arrival a b q) x → is_place b o (next q x) ≡ true
  stays (count c) x v h = grind (arith, nat_tests)
  stays (gap g) true v h = grind (arith, nat_tests)
  stays (gap g) false v h = grind (arith, nat_tests)

  pub place_of : (q : Place) → is_place b o q ≡ true → place o (number o q) ≡ q
  place_of (count c) v = rw v refl
  place_of (gap g) v = grind (arith, nat_tests)

  pub number_of : (n : ℕ) → is_place b o (place o n) ≡ true → number o (place o n) ≡ n
  number_of n v = grind (arith, nat_tests)

  pub small : b ≤ slot_limit → o ≤ slot_limit → (q : Place) → is_place b o q ≡ true → number o q < 65536
  small h h' (count c) v = grind (arith, nat_tests)
  small h h' (gap g) v = grind (arith, nat_tests)

  comes_count : (d : ℕ) → d ≤ o → Comes k (count (o - d))
  comes_count d h = comes_idle k d (count (o - d)) (counting a b o ha hb (idle k) d h)

  comes_gap : (g : ℕ) → suc g ≤ b → Comes k (gap (suc g))
  comes_gap zero h =
      let e : nat_eq (o - o) 0 ≡ true = eq-eqb (o - o) 0 (omega arith) in
      comes_next k (count (o - o)) (gap 1) true (rw e refl) (rw e refl) (comes_count o (omega arith))
  comes_gap (suc g) h =
      let q : Allows (arrival a b (gap (suc g))) false = grind (arith, nat_tests) in
      comes_next k (gap (suc g)) (gap (suc (suc g))) false (ap gap (omega arith)) q (comes_gap g (omega arith))

  pub comes : (q : Place) → is_place b o q ≡ true → Comes k q
  comes (count c) v =
      let z : o - (o - c) ≡ c = omega (arith, leb-true c o v) in
      rw z at (comes_count (o - c) (omega arith))
  comes (gap zero) v = elim (both_ways false refl v) [ ]
  comes (gap (suc g)) v = comes_gap g (leb-true (suc g) b (and_parts (nat_le 1 (suc g)) (nat_le (suc g) b) v).1)
