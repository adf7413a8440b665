-- A stream told by its places, and the numbers that stand for them.
use Rattle.std.specs.Prelude.{◌≡◌, ℕ, Bool, true, false, cond, ◌==◌}
use Rattle.streams.specs.Meaning.{Meaning, Reached}

-- What a slot may bring: no arrival, by one way; an arrival or none, by two ways; an arrival, by one way.
pub data Arrival : Type 0 where
  none : Arrival
  may : Arrival
  must : Arrival

abbrev pub ways_of : Arrival → ℕ
ways_of none = 1
ways_of may = 2
ways_of must = 1

-- Of two ways, way 0 is no arrival and way 1 is an arrival.
abbrev pub falls : Arrival → ℕ → Bool
falls none w = false
falls may w = w == 1
falls must w = true

-- A place is where a stream can stand before a slot. `is_place` says which of P are places, `next q b` is the place after a slot
-- that has an arrival or has none, `number` is the number of a place, and `place` undoes it.
pub record Places (P : Type 0) : Type 0 where
  pub start : P
  pub is_place : P → Bool
  pub arrival : P → Arrival
  pub next : P → Bool → P
  pub number : P → ℕ
  pub place : ℕ → P

-- A number is a position if it stands for a place. Any other is silent.
abbrev pub position : {P : Type 0} → Places P → ℕ → Bool
position k n = k.is_place (k.place n)

-- What a place answers by a way.
abbrev pub answer_at : {P : Type 0} → Places P → P → ℕ → Bool × ℕ
answer_at k q w = (falls (k.arrival q) w, k.number (k.next q (falls (k.arrival q) w)))

abbrev pub coded : {P : Type 0} → Places P → Meaning
coded k = record {
  first = k.number k.start;
  ways = λ n. cond (position k n) (ways_of (k.arrival (k.place n))) 1;
  answer = λ n w. cond (position k n) (answer_at k (k.place n) w) (false, n);
}

-- Places and positions stand for each other one to one, and the positions are the numbers that runs reach.
pub record OneToOne {P : Type 0} (k : Places P) : Type 0 where
  pub place_of : (q : P) → k.is_place q ≡ true → k.place (k.number q) ≡ q
  pub number_of : (n : ℕ) → position k n ≡ true → k.number (k.place n) ≡ n
  pub reached : (n : ℕ) → position k n ≡ true → Reached (coded k) n
  pub no_other : (n : ℕ) → Reached (coded k) n → position k n ≡ true
