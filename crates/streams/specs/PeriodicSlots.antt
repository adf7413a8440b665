-- Kind P slot by slot: where the stream stands in each slot of each period. Assumes nothing.
use Rattle.std.specs.Prelude.{◌≡◌, ℕ, zero, suc, ◌+◌, ◌-◌, ◌*◌, ◌/◌, ◌%◌, ◌<◌, ◌≤◌, Bool, true, false, ◌||◌, nat_eq, refl}
use Rattle.std.proofs.Common.{sym, ap, ◌∙◌, inl, inr, arith, add-one, add-suc, add-zero, suc-mul, mod-lt, div-add-mod'}
use Rattle.std.proofs.lemmas.Bool.{cases_Bool, cases_eq, both_ways, eq-eqb, ne_eqb, or_left, or_right}
use Rattle.std.proofs.lemmas.Bool.Decides.{nat_tests}
use Rattle.streams.specs.Periodic.{Place, before, phase, start, next, periodic_places}
use Rattle.streams.specs.PlacesLemmas.{at}

-- whether s has an arrival among the i slots from a on
abbrev pub seen : (ℕ → Bool) → ℕ → ℕ → Bool
seen s a zero = false
seen s a (suc i) = seen s a i || s (a + i)

pub seen_from : (s : ℕ → Bool) (a i l : ℕ) → l < i → s (a + l) ≡ true → seen s a i ≡ true
seen_from s a zero l h e = grind arith
seen_from s a (suc i) l h e = elim (cases_eq l i) [
  | inl q ↦ or_right (seen s a i) (s (a + i)) (rw (sym q) e)
  | inr q ↦ or_left (seen s a i) (s (a + i)) (seen_from s a i l (omega arith) e)
]

pub seen_some : (s : ℕ → Bool) (a i : ℕ) → seen s a i ≡ true → (l : ℕ) × (l < i) × (s (a + l) ≡ true)
seen_some s a zero e = elim (both_ways false refl e) [ ]
seen_some s a (suc i) e = elim (cases_Bool (seen s a i)) [
  | inl q ↦ let r = seen_some s a i q in (r.0, omega (arith, r.1), r.2)
  | inr q ↦ (i, omega arith, rw q at e)
]

module _ (p j o : ℕ) (hj : j < p) where
  abbrev pub from : (ℕ → Bool) → ℕ → Place
  from s n = at (periodic_places p j o) (start o) s n

  pub counting : (s : ℕ → Bool) (n : ℕ) → n < o → from s n ≡ before (o - n)
  counting s zero h = grind (arith, nat_tests)
  counting s (suc n) h =
      let e : nat_eq (o - n) 1 ≡ false = ne_eqb (o - n) 1 (λ z. omega arith) in
      ap (λ q. next p q (s n)) (counting s n (omega arith)) ∙ rw e (ap before (omega arith))

  pub at_offset : (s : ℕ → Bool) → from s o ≡ phase 0 false
  at_offset s = elim (cases_eq o 0) [
    | inl e ↦ rw e refl
    | inr e ↦
        let m : ℕ = o - 1 in
        let y : nat_eq (o - m) 1 ≡ true = eq-eqb (o - m) 1 (omega arith) in
        ap (from s) (let is : o ≡ suc m = omega arith in is) ∙ ap (λ q. next p q (s m)) (counting s m (omega arith)) ∙ rw y refl
  ]

  -- in a period that begins at slot a, the mark says whether there was an arrival
  in_period : (s : ℕ → Bool) (a i : ℕ) → from s a ≡ phase 0 false → i < p → from s (a + i) ≡ phase i (seen s a i)
  in_period s a zero e h = rw add-zero e
  in_period s a (suc i) e h =
      let ne : nat_eq (i + 1) p ≡ false = ne_eqb (i + 1) p (λ x. omega arith) in
      rw add-suc (ap (λ q. next p q (s (a + i))) (in_period s a i e (omega arith)) ∙ rw (ne, add-one) refl)

  period_begins : (s : ℕ → Bool) (k : ℕ) → from s (o + k * p) ≡ phase 0 false
  period_begins s zero = let e : o + 0 * p ≡ o = omega arith in rw e (at_offset s)
  period_begins s (suc k) =
      let a : ℕ = o + k * p in
      let i : ℕ = p - 1 in
      let e : o + suc k * p ≡ suc (a + i) = omega (arith, suc-mul k p) in
      let y : nat_eq (i + 1) p ≡ true = eq-eqb (i + 1) p (omega arith) in
      rw e (ap (λ q. next p q (s (a + i))) (in_period s a i (period_begins s k) (omega arith)) ∙ rw y refl)

  -- where the stream stands in slot i of period k
  pub slot : (s : ℕ → Bool) (k i : ℕ) → i < p → from s (o + k * p + i) ≡ phase i (seen s (o + k * p) i)
  slot s k i h = in_period s (o + k * p) i (period_begins s k) h

  -- slot n, from o on, is slot i of some period
  pub split : (n : ℕ) → o ≤ n → (k : ℕ) × (i : ℕ) × (i < p) × (n ≡ o + k * p + i)
  split n h = ((n - o) / p, (n - o) % p, mod-lt (n - o) (omega arith), omega (arith, div-add-mod' (n - o) p))
