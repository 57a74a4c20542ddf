-- What is done by the task of a call.
use Rattle.std.proofs.Common.{◌≡◌, Some, None, ap}
use Rattle.lg_calls.specs.declared.methods.add_task.AddTask.{AddTask}
use Rattle.lg_calls.specs.declared.state.State.{State}
use Rattle.lg_calls.specs.Task.{Task}
use Rattle.lg_calls.specs.Tasks.{find_task}
use Rattle.lg_calls.specs.AddTask.Describing.{by_task}
use Rattle.std.specs.Option.{option_map_or}

-- where no task has the id nothing is done
pub by_task_none : (ask : AddTask) (step : Task → State → State) (s : State) → find_task ask.task_id s.tasks ≡ None → by_task ask step s ≡ s
by_task_none ask step s none = ap (λ found. option_map_or (λ task. step task s) found s) none

-- and else the step is done by it
pub by_task_some : (ask : AddTask) (step : Task → State → State) (s : State) (task : Task) → find_task ask.task_id s.tasks ≡ Some task → by_task ask step s ≡ step task s
by_task_some ask step s task found = ap (λ here. option_map_or (λ t. step t s) here s) found
