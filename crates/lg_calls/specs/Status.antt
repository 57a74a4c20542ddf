-- The change of a task's status, by six rules in order. This project's own, after Luigi's central scheduler.
use Rattle.std.specs.Prelude.{ℕ, ◌+◌, Bool, true, false, not, ◌&&◌, ◌||◌, if◌then◌else◌, Option, Some, None, is_some, option_and_then, List}
use Rattle.lg_base.specs.declared.moment.Moment.{Moment}
use Rattle.lg_retry.specs.Failures.{no_failures, add_failure, is_excessive}
use Rattle.lg_calls.specs.declared.state.State.{State}
use Rattle.lg_calls.specs.declared.status.Status.{Status}
use Rattle.lg_calls.specs.declared.status.Status.TheVariants.{Pending, Running, BatchRunning, Done, Failed, Disabled, Unknown}
use Rattle.lg_calls.specs.Order.{is_same}
use Rattle.lg_calls.specs.Task.{Task}
use Rattle.lg_calls.specs.Tasks.{find_task, has_id, change_meant, change_task}
use Rattle.lg_calls.specs.Valid.{is_running}

-- two statuses are one
abbrev pub is_status : Status → Status → Bool
is_status Pending Pending = true
is_status Running Running = true
is_status BatchRunning BatchRunning = true
is_status Done Done = true
is_status Failed Failed = true
is_status Disabled Disabled = true
is_status Unknown Unknown = true
is_status _ _ = false

-- A task that runs isn't disabled; one that the scheduler disabled stays so, but for DONE, or where it is disabled again.
abbrev pub is_held : Status → Task → Bool
is_held Done task = false
is_held Disabled task = is_running task.status
is_held _ task = is_some task.disabled_at

-- all failures are forgotten, and that the scheduler disabled the task
abbrev pub forgiven : Task → Task
forgiven task = record task { disabled_at = None; failures = no_failures }

-- a disabled task that is done is forgiven
abbrev pub forgiven_by : Status → Task → Task
forgiven_by Done task = if is_status Disabled task.status then forgiven task else task
forgiven_by _ task = task

-- one failure more
abbrev pub failed_once_more : Moment → Task → Task
failed_once_more now task = record task { failures = add_failure task.failures now task.policy }

-- a task with the status that it is to have
abbrev pub Verdict : Type 0
Verdict = Task × Status

-- a task has failed: where that is too often, the scheduler disables it
abbrev pub judged : Moment → Task → Verdict
judged now task =
    if is_excessive task.failures now task.policy then (record task { disabled_at = Some now }, Disabled) else (task, Failed)

-- a failure counts unless the task is disabled; who disables a task anew takes over from the scheduler
abbrev pub judged_by : Status → Moment → Task → Verdict
judged_by Failed now task = if is_status Disabled task.status then (task, Failed) else judged now (failed_once_more now task)
judged_by Disabled now task = (record task { disabled_at = None }, Disabled)
judged_by status now task = (task, status)

-- the status becomes this one, at a moment
abbrev pub turned : Status → Moment → Task → Task
turned status now task = if is_status status task.status then task else record task { status = status; updated = now }

-- who doesn't run has no worker, no moment of running and no batch
abbrev pub at_rest : Task → Task
at_rest task = record task { worker_running = None; time_running = None; batch = None }

abbrev pub rested : Task → Task
rested task = if is_running task.status then task else at_rest task

-- the moment of a removal: at once for a task that was in a batch and can't be batched
abbrev pub removal : Moment → Bool → Task → Option Moment
removal now was_in_batch task = if was_in_batch && not task.batchable then Some now else task.remove

-- a task that failed is tried again behind the delay
abbrev pub retried : ℕ → Moment → Bool → Task → Task
retried delay now was_in_batch task =
    if is_status Failed task.status
    then record task { retry = Some (record { 0 = now.0 + delay }); remove = removal now was_in_batch task }
    else task

-- the verdict is carried out
abbrev pub carried_out : ℕ → Moment → Bool → Verdict → Task
carried_out delay now was_in_batch (task, status) = retried delay now was_in_batch (rested (turned status now task))

-- one task by itself is set to a status; `delay` is that of a retry, in milliseconds
unfoldable pub set_alone : ℕ → Moment → Status → Task → Task
set_alone delay now status task =
    if is_held status task then task
    else carried_out delay now (is_some task.batch) (judged_by status now (forgiven_by status task))

-- a claim: a task that runs for the others of its batch
abbrev pub is_claim : Task → Bool
is_claim task = is_status Running task.status && is_some task.batch

-- two batches are one
abbrev pub is_batch : Option (List ℕ) → Option (List ℕ) → Bool
is_batch (Some one) (Some other) = is_same one other
is_batch _ _ = false

-- the batch that a task takes along to another status: that of a claim
abbrev pub batch_along : Status → Task → Option (List ℕ)
batch_along status task = if is_claim task && not (is_status Running status) && not (is_held status task) then task.batch else None

-- a task runs in this batch, for its claim
abbrev pub runs_in : Option (List ℕ) → Task → Bool
runs_in batch task = is_batch batch task.batch && is_status BatchRunning task.status

-- who is meant: the task of an id, and those that run in the batch that goes along
abbrev pub is_meant : List ℕ → Option (List ℕ) → Task → Bool
is_meant id along task = has_id id task || runs_in along task

-- the batch that the task of an id takes along, if it is there and takes one
abbrev pub along_with : Status → List ℕ → List Task → Option (List ℕ)
along_with status id tasks = option_and_then (batch_along status) (find_task id tasks)

-- the task of an id is set to a status with those that it takes along, at the moment of the state
abbrev pub set_status : State → List ℕ → Status → State
set_status s id status =
    record s { tasks = change_meant (is_meant id (along_with status id s.tasks)) (set_alone s.settings.retry_delay s.moment status) s.tasks }

-- A task is enabled: all is forgotten, and it counts as failed. A disabled task gets no failure by that.
abbrev pub enabled_alone : ℕ → Moment → Task → Task
enabled_alone delay now task = set_alone delay now Failed (forgiven task)

-- the task of an id is enabled, at the moment of the state
abbrev pub enable : State → List ℕ → State
enable s id = record s { tasks = change_task id (enabled_alone s.settings.retry_delay s.moment) s.tasks }
