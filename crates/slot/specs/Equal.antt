-- The tests of Same are what `==` says.
use Rattle.std.specs.Prelude.{◌≡◌}
use Rattle.std.proofs.Common.{refl}
use Rattle.slot.specs.declared.state.TaskState.{TaskState}
use Rattle.slot.specs.declared.state.State.{State}
use Rattle.slot.specs.contracts.state.StatePartialEq.TheImpl as state_eq
use Rattle.slot.specs.contracts.equal.TaskStatePartialEq.TheImpl as task_eq
use Rattle.slot.specs.Slot.{state_view}
use Rattle.slot.specs.Same.{same_task, same_state}

pub tasks_equal : (x y : TaskState) → task_eq.ghosts.eq x y ≡ same_task x y
tasks_equal x y = refl

pub states_equal : (x y : State) → state_eq.ghosts.eq x y ≡ same_state (state_view x) (state_view y)
states_equal x y = refl
