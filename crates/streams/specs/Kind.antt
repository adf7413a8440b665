-- What a kind of stream owes of its places, and what then holds of its stream. Assumes nothing.
use Rattle.std.specs.Prelude.{◌≡◌, ℕ, zero, suc, ◌<◌, ◌≤◌, Bool, true, List, [], ◌∷◌, ◌++◌, refl}
use Rattle.std.proofs.Common.{ap, ◌∙◌, inl, inr, arith}
use Rattle.std.proofs.lemmas.Bool.{cases_Bool}
use Rattle.streams.specs.Meaning.{Reached, Sound}
use Rattle.streams.specs.Places.{ways_of, falls, Places, position, coded, OneToOne}
use Rattle.streams.specs.Rule.{Admits}
use Rattle.streams.specs.Arrivals.{Allows, falls_allowed, some_of, few_of, absent_of}
use Rattle.streams.specs.PlacesLemmas.{at, Follows, Shows, ends, begun, endless, endless_follows, endless_begins, run_shows, run_ends, run_of}

-- some list of arrivals leads to the place
pub record Comes {P : Type 0} (k : Places P) (q : P) : Type 0 where
  pub by : List Bool
  pub shown : Shows k k.start by
  pub there : ends k k.start by ≡ q

comes_first : {P : Type 0} (k : Places P) (q : P) → k.start ≡ q → Comes k q
comes_first k q e = record { by = []; shown = tt; there = e }

shows_more : {P : Type 0} (k : Places P) (bs : List Bool) (q : P) (b : Bool) → Shows k q bs → Allows (k.arrival (ends k q bs)) b →
    Shows k q (bs ++ (b ∷ []))
shows_more k [] q b h a = (a, tt)
shows_more k (x ∷ bs) q b h a = (h.0, shows_more k bs (k.next q x) b h.1 a)

ends_more : {P : Type 0} (k : Places P) (bs : List Bool) (q : P) (b : Bool) → ends k q (bs ++ (b ∷ [])) ≡ k.next (ends k q bs) b
ends_more k [] q b = refl
ends_more k (x ∷ bs) q b = ends_more k bs (k.next q x) b

pub comes_next : {P : Type 0} (k : Places P) (q r : P) (b : Bool) → k.next q b ≡ r → Allows (k.arrival q) b → Comes k q → Comes k r
comes_next k q r b e a c = record {
  by = c.by ++ (b ∷ []);
  shown = shows_more k c.by k.start b c.shown (rw c.there a);
  there = ends_more k c.by k.start b ∙ ap (λ x. k.next x b) c.there ∙ e;
}

-- a sequence that is followed leads to each place that it goes through, and one that takes way 0 in every slot is followed
comes_at : {P : Type 0} (k : Places P) (s : ℕ → Bool) → Follows k k.start s → (n : ℕ) → Comes k (at k k.start s n)
comes_at k s f zero = comes_first k k.start refl
comes_at k s f (suc n) = comes_next k (at k k.start s n) (at k k.start s (suc n)) (s n) refl (f n) (comes_at k s f n)

abbrev pub idle : {P : Type 0} → Places P → ℕ → Bool
idle k = endless k k.start []

pub comes_idle : {P : Type 0} (k : Places P) (n : ℕ) (q : P) → at k k.start (idle k) n ≡ q → Comes k q
comes_idle k n q e = rw e at (comes_at k (idle k) (endless_follows k [] k.start tt) n)

-- the places stay places and have their numbers, runs come to each, and the sequences that they follow are those of the rule
pub record Kind {P : Type 0} (k : Places P) (rule : (ℕ → Bool) → Type 0) : Type 0 where
  pub begins : k.is_place k.start ≡ true
  pub stays : (q : P) (b : Bool) → k.is_place q ≡ true → Allows (k.arrival q) b → k.is_place (k.next q b) ≡ true
  pub place_of : (q : P) → k.is_place q ≡ true → k.place (k.number q) ≡ q
  pub number_of : (n : ℕ) → position k n ≡ true → k.number (k.place n) ≡ n
  pub comes : (q : P) → k.is_place q ≡ true → Comes k q
  pub keeps : (s : ℕ → Bool) → Follows k k.start s → rule s
  pub follows : (s : ℕ → Bool) → rule s → Follows k k.start s

module _ {P : Type 0} {k : Places P} {rule : (ℕ → Bool) → Type 0} (kind : Kind k rule) where
  pub admits : Admits (coded k) rule
  admits bs = (
    λ r.
        let h : Shows k k.start bs = rw r.2 at (run_shows k kind.place_of kind.stays r.0 k.start kind.begins) in
        (endless k k.start bs, kind.keeps (endless k k.start bs) (endless_follows k bs k.start h), endless_begins k bs k.start),
    λ a.
        let h = begun k bs k.start a.0 (kind.follows a.0 a.1) a.2 in
        let r = run_of k kind.place_of kind.stays bs k.start kind.begins h in
        (r.ways, r.is_run, r.shows),
  )

  reached : (n : ℕ) → position k n ≡ true → Reached (coded k) n
  reached n v =
      let c = kind.comes (k.place n) v in
      let r = run_of k kind.place_of kind.stays c.by k.start kind.begins c.shown in
      (r.ways, r.is_run, r.ended ∙ ap k.number c.there ∙ kind.number_of n v)

  pub one_to_one : OneToOne k
  one_to_one = record {
    place_of = kind.place_of;
    number_of = kind.number_of;
    reached = reached;
    no_other = λ n r. rw r.2 at (run_ends k kind.place_of kind.stays r.0 k.start kind.begins);
  }

  pub sound : ((q : P) → k.is_place q ≡ true → k.number q < 65536) → Sound (coded k)
  sound small = record {
    begins = small k.start kind.begins;
    some_way = λ n. elim (cases_Bool (position k n)) [ inl v ↦ rw v (some_of (k.arrival (k.place n))) | inr v ↦ rw v (omega arith) ];
    few_ways = λ n. elim (cases_Bool (position k n)) [ inl v ↦ rw v (few_of (k.arrival (k.place n))) | inr v ↦ rw v (omega arith) ];
    stays = λ n w h. elim (cases_Bool (position k n)) [
      | inl v ↦ rw v (small (k.next (k.place n) (falls (k.arrival (k.place n)) w)) (kind.stays (k.place n) _ v (falls_allowed (k.arrival (k.place n)) w)))
      | inr v ↦ rw v h
    ];
    absent = λ n w h. elim (cases_Bool (position k n)) [
      | inl v ↦
          let h' : ways_of (k.arrival (k.place n)) ≤ w = rw v at h in
          rw v (ap (λ x. (x, k.number (k.next (k.place n) x))) (absent_of (k.arrival (k.place n)) w h'))
      | inr v ↦ rw v refl
    ];
    silent = λ n out. elim (cases_Bool (position k n)) [
      | inl v ↦ elim (out (reached n v)) [ ]
      | inr v ↦ record { one_way = rw v refl; no_arrival = λ w. rw v refl }
    ];
  }
