-- When the job of an arrival stands.
use Rattle.std.specs.Prelude.{◌≡◌, ℕ, ◌<◌, ◌≤◌, true, false, None}
use Rattle.slot.specs.declared.event.Event.{Event}
use Rattle.runs.specs.Run.{arrives, response}

-- Before slot n the job of task k that arrived in slot a stands: no arrival of k came since, and no job of k ended.
pub record PendingBefore (f : ℕ → Event) (k a n : ℕ) : Type 0 where
  pub before : a < n
  pub came : arrives (f a) k ≡ true
  pub alone : (i : ℕ) → a < i → i < n → arrives (f i) k ≡ false
  pub unended : (i : ℕ) → a ≤ i → i < n → response (f i) k ≡ None

-- In slot n, after its arrivals, the job of task k that arrived in slot a stands.
pub record PendingIn (f : ℕ → Event) (k a n : ℕ) : Type 0 where
  pub before : a ≤ n
  pub came : arrives (f a) k ≡ true
  pub alone : (i : ℕ) → a < i → i ≤ n → arrives (f i) k ≡ false
  pub unended : (i : ℕ) → a ≤ i → i < n → response (f i) k ≡ None
