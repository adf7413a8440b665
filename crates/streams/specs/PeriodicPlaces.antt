-- The places of kind P: each has its number, and some run comes to it. Assumes nothing.
use Rattle.std.specs.Prelude.{◌≡◌, ℕ, zero, suc, ◌+◌, ◌-◌, ◌<◌, ◌≤◌, Bool, true, false, ◌||◌, nat_eq, nat_le, nat_lt, refl}
use Rattle.std.proofs.Common.{ap, ◌∙◌, inl, inr, arith, add-one}
use Rattle.std.proofs.lemmas.Bool.{cases_Bool, both_ways, leb-true, lt-ltb, ne_eqb, and_parts, ltb-true}
use Rattle.std.proofs.lemmas.Bool.Decides.{nat_tests}
use Rattle.streams.specs.Parameters.{slot_limit}
use Rattle.streams.specs.Places.{Places}
use Rattle.streams.specs.Periodic.{Place, before, phase, start, is_place, arrival, next, number, place, periodic_places}
use Rattle.streams.specs.Arrivals.{Allows}
use Rattle.streams.specs.Kind.{Comes, comes_next, idle, comes_idle}
use Rattle.streams.specs.PeriodicSlots.{counting, at_offset}

module _ (p j o : ℕ) (hj : j < p) where
  abbrev k : Places Place
  k = periodic_places p j o

  pub begins : is_place p j o (start o) ≡ true
  begins = grind (arith, nat_tests)

  pub stays : (q : Place) (b : Bool) → is_place p j o q ≡ true → Allows (arrival j q) b → is_place p j o (next p q b) ≡ true
  stays (before c) b v a = grind (arith, nat_tests)
  stays (phase f true) b v a = grind (arith, nat_tests)
  stays (phase f false) true v a = grind (arith, nat_tests)
  stays (phase f false) false v a = grind (arith, nat_tests)

  pub place_of : (q : Place) → is_place p j o q ≡ true → place p (number p q) ≡ q
  place_of (before c) v = grind (arith, nat_tests)
  place_of (phase f true) v = grind (arith, nat_tests)
  place_of (phase f false) v = grind (arith, nat_tests)

  pub number_of : (n : ℕ) → is_place p j o (place p n) ≡ true → number p (place p n) ≡ n
  number_of n v = grind (arith, nat_tests)

  pub small : p ≤ slot_limit → o ≤ slot_limit → (q : Place) → is_place p j o q ≡ true → number p q < 65536
  small hp ho (before c) v = grind (arith, nat_tests)
  small hp ho (phase f true) v = grind (arith, nat_tests)
  small hp ho (phase f false) v = grind (arith, nat_tests)

  comes_zero : Comes k (phase 0 false)
  comes_zero = comes_idle k o (phase 0 false) (at_offset p j o hj (idle k))

  comes_phase : (f : ℕ) (m b : Bool) → f + 1 < p → Allows (arrival j (phase f m)) b → Comes k (phase f m) → Comes k (phase (suc f) (m || b))
  comes_phase f m b h =
      let e : nat_eq (f + 1) p ≡ false = ne_eqb (f + 1) p (λ z. omega arith) in
      comes_next k (phase f m) (phase (suc f) (m || b)) b (rw (e, add-one) refl)

  comes_unmarked : (f : ℕ) → f ≤ j → Comes k (phase f false)
  comes_unmarked zero h = comes_zero
  comes_unmarked (suc f) h =
      comes_phase f false false (omega arith) (rw (lt-ltb f j (omega arith)) tt) (comes_unmarked f (omega arith))

  comes_marked : (f : ℕ) → suc f < p → Comes k (phase (suc f) true)
  comes_marked zero h =
      comes_phase 0 false true (omega arith) (elim (cases_Bool (nat_lt 0 j)) [ inl e ↦ rw e tt | inr e ↦ rw e refl ]) comes_zero
  comes_marked (suc f) h = comes_phase (suc f) true false (omega arith) refl (comes_marked f (omega arith))

  pub comes : (q : Place) → is_place p j o q ≡ true → Comes k q
  comes (before c) v =
      let h = and_parts (nat_le 1 c) (nat_le c o) v in
      let l : o - c < o = omega (arith, leb-true 1 c h.0, leb-true c o h.1) in
      let z : o - (o - c) ≡ c = omega (arith, leb-true c o h.1) in
      comes_idle k (o - c) (before c) (counting p j o hj (idle k) (o - c) l ∙ ap before z)
  comes (phase f false) v = comes_unmarked f (leb-true f j v)
  comes (phase zero true) v = elim (both_ways false refl v) [ ]
  comes (phase (suc f) true) v = comes_marked f (ltb-true (suc f) p (and_parts (nat_le 1 (suc f)) (nat_lt (suc f) p) v).1)
