-- The sequences that the places of kind P follow are those that keep its rule. Assumes nothing.
use Rattle.std.specs.Prelude.{◌≡◌, ℕ, ◌+◌, ◌*◌, ◌%◌, ◌<◌, ◌≤◌, Bool, true, false, ◌≢◌}
use Rattle.std.proofs.Common.{sym, ap, ◌∙◌, inl, inr, arith}
use Rattle.std.proofs.Math.Arith.{digits_mod}
use Rattle.std.proofs.lemmas.Bool.{cases_Bool, cases_lt, cases_order, both_ways, lt-ltb, le-ltb}
use Rattle.streams.specs.Periodic.{PeriodicRule, phase, start, arrival, periodic_places}
use Rattle.streams.specs.Arrivals.{Allows}
use Rattle.streams.specs.PlacesLemmas.{Follows}
use Rattle.streams.specs.Kind.{Kind}
use Rattle.streams.specs.PeriodicPlaces.{begins, stays, place_of, number_of, comes}
use Rattle.streams.specs.PeriodicSlots.{seen, seen_from, seen_some, counting, slot, split}

module _ (p j o : ℕ) (hj : j < p) where
  -- a sequence that is followed keeps the rule
  module _ (s : ℕ → Bool) (f : Follows (periodic_places p j o) (start o) s) where
    brings : (k i : ℕ) → i < p → Allows (arrival j (phase i (seen s (o + k * p) i))) (s (o + k * p + i))
    brings k i h = rw (slot p j o hj s k i h) at (f (o + k * p + i))

    marked : (k i : ℕ) → i < p → seen s (o + k * p) i ≡ true → s (o + k * p + i) ≡ false
    marked k i h e = rw e at (brings k i h)

    due : (k : ℕ) → seen s (o + k * p) j ≡ false → s (o + k * p + j) ≡ true
    due k e = rw (e, le-ltb j j (omega arith)) at (brings k j hj)

    at_most : (k l i : ℕ) → l < i → i < p → s (o + k * p + l) ≡ true → s (o + k * p + i) ≢ true
    at_most k l i h hi e e' = both_ways (s (o + k * p + i)) (marked k i hi (seen_from s (o + k * p) i l h e)) e'

    at_least : (k : ℕ) → (i : ℕ) × (i ≤ j) × (s (o + k * p + i) ≡ true)
    at_least k = elim (cases_Bool (seen s (o + k * p) j)) [
      | inl e ↦ let r = seen_some s (o + k * p) j e in (r.0, omega (arith, r.1), r.2)
      | inr e ↦ (j, omega arith, due k e)
    ]

    same : (k l i : ℕ) → l < p → i < p → s (o + k * p + l) ≡ true → s (o + k * p + i) ≡ true → l ≡ i
    same k l i hl hi e e' = elim (cases_order l i) [
      | inl q ↦ q
      | inr (inl q) ↦ elim (at_most k l i q hi e e') [ ]
      | inr (inr q) ↦ elim (at_most k i l q hl e' e) [ ]
    ]

    pub keeps : PeriodicRule p j o s
    keeps = record {
      one = λ k. let r = at_least k in (r.0, r.1, r.2, λ l h e. same k l r.0 (omega arith) (omega (arith, r.1)) e r.2);
      only = λ n e. elim (cases_lt n o) [
        | inl h ↦
            let z : s n ≡ false = rw (counting p j o hj s n h) at (f n) in
            elim (both_ways (s n) z e) [ ]
        | inr h ↦
            let d = split p j o hj n h in
            let r = at_least d.0 in
            let i : d.1 ≡ r.0 = same d.0 d.1 r.0 d.2 (omega (arith, r.1)) (rw d.3 at e) r.2 in
            (d.0, d.1, omega (arith, r.1, i), d.3)
      ];
    }

  -- a sequence that keeps the rule is followed
  module _ (s : ℕ → Bool) (r : PeriodicRule p j o s) where
    -- an arrival falls in its stretch
    in_stretch : (k i : ℕ) → i < p → s (o + k * p + i) ≡ true → i ≤ j
    in_stretch k i h e =
        let d = r.only (o + k * p + i) e in
        let z : k * p + i ≡ d.0 * p + d.1 = omega (arith, d.3) in
        let l : d.1 < p = omega (arith, d.2) in
        let q : i ≡ d.1 = sym (digits_mod k h) ∙ ap (λ (x : ℕ). x % p) z ∙ digits_mod d.0 l in
        omega (arith, d.2, q)

    allowed : (k i : ℕ) → i < p → Allows (arrival j (phase i (seen s (o + k * p) i))) (s (o + k * p + i))
    allowed k i h =
        let a : ℕ = o + k * p in
        let one = r.one k in
        elim (cases_Bool (seen s a i)) [
          | inl y ↦ rw y (elim (cases_Bool (s (a + i))) [
            | inl t ↦
                let l = seen_some s a i y in
                let hi : i ≤ j = in_stretch k i h t in
                let x : l.0 ≡ i = one.3 l.0 (omega (arith, l.1)) l.2 ∙ sym (one.3 i hi t) in
                elim (let no : ⊥ = omega (arith, l.1, x) in no) [ ]
            | inr n ↦ n
          ])
          | inr y ↦ elim (cases_lt i j) [
            | inl g ↦ rw (y, lt-ltb i j g) tt
            | inr g ↦ rw (y, le-ltb i j g) (elim (cases_lt one.0 i) [
              | inl u ↦ elim (both_ways (seen s a i) y (seen_from s a i one.0 u one.2)) [ ]
              | inr u ↦ let v : one.0 ≡ i = omega (arith, one.1) in rw v at one.2
            ])
          ]
        ]

    pub follows : Follows (periodic_places p j o) (start o) s
    follows n = elim (cases_lt n o) [
      | inl h ↦ rw (counting p j o hj s n h) (elim (cases_Bool (s n)) [
        | inl t ↦ let d = r.only n t in elim (let no : ⊥ = omega (arith, d.3) in no) [ ]
        | inr e ↦ e
      ])
      | inr h ↦
          let d = split p j o hj n h in
          rw (d.3, slot p j o hj s d.0 d.1 d.2) (allowed d.0 d.1 d.2)
    ]

  pub periodic_kind : Kind (periodic_places p j o) (PeriodicRule p j o)
  periodic_kind = record {
    begins = begins p j o hj;
    stays = stays p j o hj;
    place_of = place_of p j o hj;
    number_of = number_of p j o hj;
    comes = comes p j o hj;
    keeps = keeps;
    follows = follows;
  }
