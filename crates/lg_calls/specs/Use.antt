-- What is in use. This project's own, after Luigi's central scheduler.
use Rattle.std.specs.FinMap.{contains_key}
use Rattle.std.specs.Prelude.{ℕ, Bool, List, filter, sum_by}
use Rattle.lg_base.specs.Amounts.{amount_of}
use Rattle.lg_calls.specs.declared.state.State.{State}
use Rattle.lg_calls.specs.declared.status.Status.{Status}
use Rattle.lg_calls.specs.declared.status.Status.TheVariants.{Running}
use Rattle.lg_calls.specs.Status.{is_status}
use Rattle.lg_calls.specs.Task.{Task}

-- the tasks of a status
abbrev pub with_status : Status → List Task → List Task
with_status status tasks = filter (λ task. is_status status task.status) tasks

-- how much of a resource some tasks take together
abbrev pub use_by : List Task → List ℕ → ℕ
use_by tasks name = sum_by (λ task. amount_of task.resources name) tasks

-- how much of a resource is in use: what the RUNNING tasks take of it
abbrev pub used : State → List ℕ → ℕ
used state name = use_by (with_status Running state.tasks) name

-- a task takes of a resource, be it nothing: its resources name it
abbrev pub takes : List ℕ → Task → Bool
takes name task = contains_key task.resources name
