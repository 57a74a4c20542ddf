-- What `add_task` does to the state. This project's own, after Luigi's central scheduler.
use Rattle.std.specs.Prelude.{◌≡◌, ℕ, ◌^◌, nat_lt, Bool, ◌&&◌, ◌||◌, if◌then◌else◌, length, Result, Ok, Err}
use Rattle.lg_json.specs.Tree.{null}
use Rattle.lg_calls.specs.declared.methods.add_task.AddTask.{AddTask}
use Rattle.lg_calls.specs.declared.engine.StepFault.{StepFault}
use Rattle.lg_calls.specs.declared.engine.StepFault.TheVariants.{Full, NoMemory}
use Rattle.lg_calls.specs.declared.state.State.{State}
use Rattle.lg_calls.specs.declared.status.Status.TheVariants.{Pending}
use Rattle.lg_calls.specs.Outcome.{Outcome, replied, full}
use Rattle.lg_calls.specs.AddTask.Describing.{task_described}
use Rattle.lg_calls.specs.AddTask.Ending.{ends}
use Rattle.lg_calls.specs.AddTask.Making.{with_task}
use Rattle.lg_calls.specs.AddTask.Offering.{offered}
use Rattle.lg_calls.specs.AddTask.Reporting.{task_reported}
use Rattle.lg_calls.specs.Workers.{touched}
use Rattle.lg_calls.specs.AddTask.Wanting.{wanted}

-- The task of the call is made where it isn't known; it is described, its status is reported with what it needs, it is wanted
-- with its dependencies, and it is offered.
abbrev pub carried : AddTask → State → State
carried ask s = offered ask (wanted ask (task_reported ask (task_described ask (with_task Pending ask.priority s ask.task_id))))

-- the worker is touched, and unless the step ends there, it is carried out
abbrev pub added : AddTask → State → State
added ask s = let here = touched ask.worker s in if ends ask here then here else carried ask here

-- the greatest number of a task, and one more
abbrev pub max_next : ℕ
max_next = 2 ^ 62

-- tasks would be made, and the tasks with them would be too many, or their numbers would pass the greatest
abbrev pub has_no_room : State → State → Bool
has_no_room before after =
    nat_lt before.next after.next && (nat_lt before.settings.max_tasks (length after.tasks) || nat_lt max_next after.next)

-- the whole step: the scheduler is full with so many tasks, or null is replied
abbrev pub task_added : AddTask → State → State × Outcome
task_added ask s = let after = added ask s in if has_no_room s after then (s, full (length s.tasks)) else (after, replied null)

-- The outcome, and the state behind it, are those of the definition; or memory ran out, and the state is as it was.
abbrev pub Adds : AddTask → State → State → Result (Unit {0}) StepFault → Type 0
Adds ask old new (Ok done) = task_added ask old ≡ (new, replied null)
Adds ask old new (Err (Full tasks)) = task_added ask old ≡ (new, full tasks)
Adds ask old new (Err NoMemory) = new ≡ old
