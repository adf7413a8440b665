-- The tasks of a plan, place by place. Assumes nothing.
use Rattle.std.proofs.Common.{◌≡◌, ℕ, ◌+◌, ◌<◌, ◌≤◌, List, [], ◌∷◌, length, get_or, drop, Some, None, Option, refl, arith, is_some}
use Rattle.std.specs.List.{prefix_len}
use Rattle.std.proofs.lemmas.List.{drop_more}
use Rattle.streams.specs.Meaning.{Meaning}
use Rattle.plans.specs.declared.plan.Task.{Task}
use Rattle.plans.specs.Tasks.{task_view, task_views}

module _ {S : Type 0} (meaning : S → Meaning) where
  -- at a task, the views from i on begin with it
  pub task_views_more : (ts : List (Option (Task S))) (i : ℕ) (d : Option (Task S)) (t : Task S) → i < length ts → get_or ts i d ≡ Some t →
      task_views meaning (drop i ts) ≡ task_view meaning t ∷ task_views meaning (drop (i + 1) ts)
  task_views_more ts i d t h e = rw (drop_more ts i d h, e) refl

  -- at a free place they end
  pub task_views_end : (ts : List (Option (Task S))) (i : ℕ) (d : Option (Task S)) → i < length ts → get_or ts i d ≡ None →
      task_views meaning (drop i ts) ≡ []
  task_views_end ts i d h e = rw (drop_more ts i d h, e) refl

-- the places up to the first free one
pub leading : {S : Type 0} (meaning : S → Meaning) (ts : List (Option (Task S))) → prefix_len is_some ts ≡ length (task_views meaning ts)
leading meaning [] = refl
leading meaning (None ∷ ts) = refl
leading meaning (Some t ∷ ts) = let ih = leading meaning ts in omega arith

pub views_few : {S : Type 0} (meaning : S → Meaning) (ts : List (Option (Task S))) → length (task_views meaning ts) ≤ length ts
views_few meaning [] = omega arith
views_few meaning (None ∷ ts) = omega arith
views_few meaning (Some t ∷ ts) = let ih = views_few meaning ts in omega arith
