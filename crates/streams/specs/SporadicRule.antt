-- The sequences that the places of kind S follow are those that keep its rule. Assumes nothing.
use Rattle.std.specs.Prelude.{◌≡◌, ℕ, zero, suc, ◌+◌, ◌-◌, ◌<◌, ◌≤◌, Bool, true, false, nat_eq}
use Rattle.std.proofs.Common.{inl, inr, arith}
use Rattle.std.proofs.lemmas.Bool.{cases_Bool, cases_lt, cases_eq, both_ways, lt-ltb, le-ltb, le-leb, eq-eqb, ne_eqb}
use Rattle.streams.specs.Sporadic.{SporadicRule, Place, count, gap, arrival, next, sporadic_places}
use Rattle.streams.specs.Arrivals.{Allows}
use Rattle.streams.specs.PlacesLemmas.{Follows}
use Rattle.streams.specs.Kind.{Kind}
use Rattle.streams.specs.SporadicPlaces.{stays, place_of, number_of, comes}
use Rattle.streams.specs.SporadicSlots.{from, counting, restarts, upcoming}

module _ (a b o : ℕ) (ha : 1 ≤ a) (hb : a ≤ b) where
  -- a sequence that is followed keeps the rule
  module _ (s : ℕ → Bool) (f : Follows (sporadic_places a b o) (count o) s) where
    pub keeps : SporadicRule a b o s
    keeps = record {
      before = λ n h. let e : nat_eq (o - n) 0 ≡ false = ne_eqb (o - n) 0 (λ z. omega arith) in
          rw (counting a b o ha hb s n (omega arith), e) at (f n);
      first = let e : nat_eq (o - o) 0 ≡ true = eq-eqb (o - o) 0 (omega arith) in
          rw (counting a b o ha hb s o (omega arith), e) at (f o);
      later = λ n h.
          let q : from a b o ha hb s (suc n) ≡ gap 1 = rw h (restarts a b o ha hb (from a b o ha hb s n) (rw h at (f n))) in
          let r = upcoming a b o ha hb s f (b - 1) (suc n) 1 (omega arith) q in
          let z : suc n + (r.size - 1) ≡ n + r.size = omega (arith, r.grown) in
          (r.size, r.least, r.greatest, rw z at r.there, λ i u v. r.between i (omega arith) (omega (arith, r.grown)));
    }

  -- a sequence that keeps the rule is followed
  module _ (s : ℕ → Bool) (r : SporadicRule a b o s) where
    -- the place before slot n is what s says
    abbrev Tells : ℕ → Place → Type 0
    Tells n (count c) = n + c ≡ o
    Tells n (gap g) = (1 ≤ g) × (g ≤ n) × (s (n - g) ≡ true) × ((i : ℕ) → n - g < i → i < n → s i ≡ false)

    allowed : (n : ℕ) (q : Place) → Tells n q → Allows (arrival a b q) (s n)
    allowed n (count c) t = elim (cases_eq c 0) [
      | inl e ↦ let z : n ≡ o = omega arith in rw (eq-eqb c 0 e, z) r.first
      | inr e ↦ rw (ne_eqb c 0 e) (r.before n (omega arith))
    ]
    allowed n (gap g) t =
        let k = r.later (n - g) t.2 in
        elim (cases_lt g a) [
          | inl l ↦ rw (lt-ltb g a l) (k.4 n (omega (arith, t.0, t.1)) (omega (arith, k.1, t.1)))
          | inr l ↦ elim (cases_lt g b) [
            | inl l' ↦ rw (le-ltb g a l, lt-ltb g b l') tt
            | inr l' ↦ rw (le-ltb g a l, le-ltb g b l') (elim (cases_lt (n - g + k.0) n) [
              | inl u ↦ elim (both_ways (s (n - g + k.0)) (t.3 (n - g + k.0) (omega (arith, k.1)) u) k.3) [ ]
              | inr u ↦ let z : n - g + k.0 ≡ n = omega (arith, k.2, t.1) in rw z at k.3
            ])
          ]
        ]

    -- the place after an arrival
    told_arrival : (n : ℕ) → s n ≡ true → Tells (suc n) (gap 1)
    told_arrival n y =
        let z : suc n - 1 ≡ n = omega arith in
        (omega arith, omega arith, rw z y, λ i u v. elim (let no : ⊥ = omega arith in no) [ ])

    told_next : (n : ℕ) (q : Place) → Tells n q → Tells (suc n) (next q (s n))
    told_next n (count c) t = elim (cases_eq c 0) [
      | inl e ↦ let z : n ≡ o = omega arith in rw (eq-eqb c 0 e) (told_arrival n (rw z r.first))
      | inr e ↦ rw (ne_eqb c 0 e) (omega arith)
    ]
    told_next n (gap g) t = elim (cases_Bool (s n)) [
      | inl y ↦ rw y (told_arrival n y)
      | inr y ↦
          let z : suc n - (g + 1) ≡ n - g = omega arith in
          rw y (
            omega arith,
            omega (arith, t.1),
            rw z t.2,
            rw z (λ i u v. elim (cases_eq i n) [ inl e ↦ rw e y | inr e ↦ t.3 i u (omega arith) ]),
          )
    ]

    told : (n : ℕ) → Tells n (from a b o ha hb s n)
    told zero = omega arith
    told (suc n) = told_next n (from a b o ha hb s n) (told n)

    pub follows : Follows (sporadic_places a b o) (count o) s
    follows n = allowed n (from a b o ha hb s n) (told n)

  pub sporadic_kind : Kind (sporadic_places a b o) (SporadicRule a b o)
  sporadic_kind = record {
    begins = le-leb o o (omega arith);
    stays = stays a b o ha hb;
    place_of = place_of a b o ha hb;
    number_of = number_of a b o ha hb;
    comes = comes a b o ha hb;
    keeps = keeps;
    follows = follows;
  }
