-- Kind S slot by slot: the countdown, and how far the next arrival is. Assumes nothing.
use Rattle.std.specs.Prelude.{◌≡◌, ℕ, zero, suc, ◌+◌, ◌-◌, ◌<◌, ◌≤◌, Bool, true, false, nat_eq, refl}
use Rattle.std.proofs.Common.{ap, ◌∙◌, inl, inr, arith}
use Rattle.std.proofs.lemmas.Bool.{cases_Bool, cases_eq, ne_eqb}
use Rattle.std.proofs.lemmas.Bool.Decides.{nat_tests}
use Rattle.streams.specs.Sporadic.{Place, count, gap, arrival, next, sporadic_places}
use Rattle.streams.specs.Arrivals.{Allows}
use Rattle.streams.specs.PlacesLemmas.{at, Follows}

module _ (a b o : ℕ) (ha : 1 ≤ a) (hb : a ≤ b) where
  abbrev pub from : (ℕ → Bool) → ℕ → Place
  from s n = at (sporadic_places a b o) (count o) s n

  pub counting : (s : ℕ → Bool) (n : ℕ) → n ≤ o → from s n ≡ count (o - n)
  counting s zero h = ap count (omega arith)
  counting s (suc n) h =
      let e : nat_eq (o - n) 0 ≡ false = ne_eqb (o - n) 0 (λ z. omega arith) in
      ap (λ q. next q (s n)) (counting s n (omega arith)) ∙ rw e (ap count (omega arith))

  -- b slots after the last arrival there is one
  in_time : (g : ℕ) → Allows (arrival a b (gap g)) false → g < b
  in_time g h = grind (arith, nat_tests)

  -- an arrival comes no sooner than a slots after the last one
  late_enough : (g : ℕ) → Allows (arrival a b (gap g)) true → a ≤ g
  late_enough g h = grind (arith, nat_tests)

  -- after an arrival the gap is 1
  pub restarts : (q : Place) → Allows (arrival a b q) true → next q true ≡ gap 1
  restarts (count c) h = grind (arith, nat_tests)
  restarts (gap g) h = refl

  -- in a sequence that is followed
  module _ (s : ℕ → Bool) (f : Follows (sporadic_places a b o) (count o) s) where
    -- the next arrival from slot x on, which is g slots after the last
    pub record Next (x g : ℕ) : Type 0 where
      pub size : ℕ
      pub grown : g ≤ size
      pub least : a ≤ size
      pub greatest : size ≤ b
      pub there : s (x + (size - g)) ≡ true
      pub between : (i : ℕ) → x ≤ i → i < x + (size - g) → s i ≡ false

    at_once : (x g : ℕ) → g ≤ b → from s x ≡ gap g → s x ≡ true → Next x g
    at_once x g h q y =
        let z : x + (g - g) ≡ x = omega arith in
        record {
          size = g;
          grown = omega arith;
          least = late_enough g (rw (q, y) at (f x));
          greatest = h;
          there = rw z y;
          between = λ i u v. elim (let no : ⊥ = omega arith in no) [ ];
        }

    not_yet : (x g : ℕ) → s x ≡ false → Next (suc x) (suc g) → Next x g
    not_yet x g y r =
        let z : suc x + (r.size - suc g) ≡ x + (r.size - g) = omega (arith, r.grown) in
        record {
          size = r.size;
          grown = omega (arith, r.grown);
          least = r.least;
          greatest = r.greatest;
          there = rw z at r.there;
          between = λ i u v. elim (cases_eq i x) [
            | inl e ↦ rw e y
            | inr e ↦ r.between i (omega arith) (omega (arith, r.grown))
          ];
        }

    pub upcoming : (e x g : ℕ) → g + e ≡ b → from s x ≡ gap g → Next x g
    upcoming zero x g h q = at_once x g (omega arith) q (elim (cases_Bool (s x)) [
      | inl y ↦ y
      | inr y ↦
          let l = in_time g (rw (q, y) at (f x)) in
          elim (let no : ⊥ = omega arith in no) [ ]
    ])
    upcoming (suc e) x g h q = elim (cases_Bool (s x)) [
      | inl y ↦ at_once x g (omega arith) q y
      | inr y ↦
          let grows : from s (suc x) ≡ gap (suc g) = rw (q, y) (ap gap (omega arith)) in
          not_yet x g y (upcoming e (suc x) (suc g) (omega arith) grows)
    ]
