-- Runs of a stream told by its places: which arrivals they show, and where they end. Assumes nothing.
use Rattle.std.specs.Prelude.{◌≡◌, ℕ, zero, suc, Bool, true, List, [], ◌∷◌, refl}
use Rattle.std.proofs.Common.{sym, ap, ◌∙◌, arith}
use Rattle.streams.specs.Meaning.{IsRun, pattern, after}
use Rattle.streams.specs.Places.{ways_of, falls, Places, position, answer_at, coded}
use Rattle.streams.specs.Rule.{Begins}
use Rattle.streams.specs.Arrivals.{Allows, falls_allowed, pick, pick_exists, pick_falls}

module _ {P : Type 0} (k : Places P) where
  -- the place before slot n, from a place on, where the slots have the arrivals of s
  abbrev pub at : P → (ℕ → Bool) → ℕ → P
  at q s zero = q
  at q s (suc n) = k.next (at q s n) (s n)

  -- each slot may bring what s has in it
  abbrev pub Follows : P → (ℕ → Bool) → Type 0
  Follows q s = (n : ℕ) → Allows (k.arrival (at q s n)) (s n)

  -- the same of a list, and the place after it
  abbrev pub Shows : P → List Bool → Type 0
  Shows q [] = Unit {0}
  Shows q (b ∷ bs) = Allows (k.arrival q) b × Shows (k.next q b) bs

  abbrev pub ends : P → List Bool → P
  ends q [] = q
  ends q (b ∷ bs) = ends (k.next q b) bs

  at_later : (q : P) (s : ℕ → Bool) (n : ℕ) → at q s (suc n) ≡ at (k.next q (s 0)) (λ i. s (suc i)) n
  at_later q s zero = refl
  at_later q s (suc n) = ap (λ x. k.next x (s (suc n))) (at_later q s n)

  follows_from : (q : P) (s : ℕ → Bool) → Allows (k.arrival q) (s 0) → Follows (k.next q (s 0)) (λ i. s (suc i)) → Follows q s
  follows_from q s a f zero = a
  follows_from q s a f (suc n) = rw (at_later q s n) (f n)

  -- how a sequence that is followed begins is shown
  pub begun : (bs : List Bool) (q : P) (s : ℕ → Bool) → Follows q s → Begins bs s → Shows q bs
  begun [] q s f g = tt
  begun (b ∷ bs) q s f g =
      let e : b ≡ s 0 = g 0 (omega arith) in
      (rw e (f 0), rw e (begun bs (k.next q (s 0)) (λ i. s (suc i)) (λ n. rw (sym (at_later q s n)) (f (suc n))) (λ i h. g (suc i) (omega arith))))

  -- a list that is shown goes on for ever, with way 0 after its end
  abbrev pub endless : P → List Bool → ℕ → Bool
  endless q [] zero = falls (k.arrival q) 0
  endless q [] (suc n) = endless (k.next q (falls (k.arrival q) 0)) [] n
  endless q (b ∷ bs) zero = b
  endless q (b ∷ bs) (suc n) = endless (k.next q b) bs n

  way_0 : (n : ℕ) (q : P) → Allows (k.arrival (at q (endless q []) n)) (endless q [] n)
  way_0 zero q = falls_allowed (k.arrival q) 0
  way_0 (suc n) q = rw (at_later q (endless q []) n) (way_0 n (k.next q (falls (k.arrival q) 0)))

  pub endless_follows : (bs : List Bool) (q : P) → Shows q bs → Follows q (endless q bs)
  endless_follows [] q h n = way_0 n q
  endless_follows (b ∷ bs) q h n = follows_from q (endless q (b ∷ bs)) h.0 (endless_follows bs (k.next q b) h.1) n

  pub endless_begins : (bs : List Bool) (q : P) → Begins bs (endless q bs)
  endless_begins [] q i h = elim (let no : ⊥ = omega arith in no) [ ]
  endless_begins (b ∷ bs) q zero h = refl
  endless_begins (b ∷ bs) q (suc i) h = endless_begins bs (k.next q b) i (omega arith)

  -- where each place has its number and the next place is one
  module _
      (back : (q : P) → k.is_place q ≡ true → k.place (k.number q) ≡ q)
      (stays : (q : P) (b : Bool) → k.is_place q ≡ true → Allows (k.arrival q) b → k.is_place (k.next q b) ≡ true) where
    here : (q : P) → k.is_place q ≡ true → position k (k.number q) ≡ true
    here q v = ap k.is_place (back q v) ∙ v

    ways_here : (q : P) → k.is_place q ≡ true → (coded k).ways (k.number q) ≡ ways_of (k.arrival q)
    ways_here q v = rw (here q v, back q v) refl

    answer_here : (q : P) (w : ℕ) → k.is_place q ≡ true → (coded k).answer (k.number q) w ≡ answer_at k q w
    answer_here q w v = rw (here q v, back q v) refl

    goes_on : (q : P) (w : ℕ) → k.is_place q ≡ true → k.is_place (k.next q (falls (k.arrival q) w)) ≡ true
    goes_on q w v = stays q (falls (k.arrival q) w) v (falls_allowed (k.arrival q) w)

    pub run_shows : (ws : List ℕ) (q : P) → k.is_place q ≡ true → Shows q (pattern (coded k) (k.number q) ws)
    run_shows [] q v = tt
    run_shows (w ∷ ws) q v =
        rw (answer_here q w v) (falls_allowed (k.arrival q) w, run_shows ws (k.next q (falls (k.arrival q) w)) (goes_on q w v))

    pub run_ends : (ws : List ℕ) (q : P) → k.is_place q ≡ true → position k (after (coded k) (k.number q) ws) ≡ true
    run_ends [] q v = here q v
    run_ends (w ∷ ws) q v = rw (answer_here q w v) (run_ends ws (k.next q (falls (k.arrival q) w)) (goes_on q w v))

    -- a run that shows the list, and ends where the list does
    pub record Run (q : P) (bs : List Bool) : Type 0 where
      pub ways : List ℕ
      pub is_run : IsRun (coded k) (k.number q) ways
      pub shows : pattern (coded k) (k.number q) ways ≡ bs
      pub ended : after (coded k) (k.number q) ways ≡ k.number (ends q bs)

    pub run_of : (bs : List Bool) (q : P) → k.is_place q ≡ true → Shows q bs → Run q bs
    run_of [] q v h = record { ways = []; is_run = tt; shows = refl; ended = refl }
    run_of (b ∷ bs) q v h =
        let w : ℕ = pick (k.arrival q) b in
        let e : falls (k.arrival q) w ≡ b = pick_falls (k.arrival q) b h.0 in
        let r = run_of bs (k.next q b) (stays q b v h.0) h.1 in
        let e' : (coded k).answer (k.number q) w ≡ (b, k.number (k.next q b)) =
        answer_here q w v ∙ ap (λ x. (x, k.number (k.next q x))) e in
        record {
          ways = w ∷ r.ways;
          is_run = (rw (ways_here q v) (pick_exists (k.arrival q) b), rw e' r.is_run);
          shows = rw e' (ap (λ x. b ∷ x) r.shows);
          ended = rw e' r.ended;
        }
