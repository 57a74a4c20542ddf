-- How urgent a task is, how often it may fail, and who can run it. This project's own, after Luigi's central scheduler.
use Rattle.std.specs.Prelude.{ℕ, Bool, true, false, not, ◌&&◌, if◌then◌else◌, Option, unwrap_or, option_map, List, [], ◌∷◌, ◌++◌}
use Rattle.std.specs.Int.{int_max}
use Rattle.std.specs.List.{list_any}
use Rattle.lg_retry.specs.declared.policy.Policy.{Policy}
use Rattle.lg_calls.specs.declared.methods.add_task.AddTask.{AddTask}
use Rattle.lg_calls.specs.declared.retry_policy.RetryPolicy.{RetryPolicy}
use Rattle.lg_calls.specs.declared.state.State.{State}
use Rattle.lg_calls.specs.declared.status.Status.TheVariants.{Failed}
use Rattle.lg_calls.specs.Order.{is_same}
use Rattle.lg_calls.specs.Settings.{seconds, policy_of}
use Rattle.lg_calls.specs.Status.{is_status}
use Rattle.lg_calls.specs.Task.{Task}
use Rattle.lg_calls.specs.AddTask.Describing.{by_task, task_changed}
use Rattle.lg_calls.specs.AddTask.Reporting.{status_of}
use Rattle.lg_calls.specs.Raising.{raised}
use Rattle.lg_calls.specs.Workers.{is_disabled}

-- the greater priority stays
abbrev pub as_urgent : AddTask → Task → Task
as_urgent ask task = record task { priority = int_max task.priority ask.priority }

-- the task of the call is as urgent as the call says, where it wasn't before, and what it waits for is as urgent as it is
abbrev pub urged : AddTask → State → State
urged ask s =
    by_task ask (λ task here. record here { tasks = raised task.priority ask.task_id here.tasks }) (task_changed ask (as_urgent ask) s)

-- the policy of the settings, and over it what is said: seconds are kept in milliseconds
abbrev pub policy_with : RetryPolicy → Policy → Policy
policy_with said policy = record {
  retry_count = unwrap_or said.retry_count policy.retry_count;
  disable_window = unwrap_or (option_map seconds said.disable_window) policy.disable_window;
  disable_hard_timeout = unwrap_or (option_map seconds said.disable_hard_timeout) policy.disable_hard_timeout;
}

abbrev pub with_policy : Policy → Task → Task
with_policy policy task = record task { policy = policy }

-- a worker is put behind the others, where it isn't among them
abbrev pub with_worker : List ℕ → List (List ℕ) → List (List ℕ)
with_worker worker workers = if list_any (is_same worker) workers then workers else workers ++ worker ∷ []

-- the worker can run the task
abbrev pub runnable_by : List ℕ → Task → Task
runnable_by worker task = record task { workers = with_worker worker task.workers; runnable = true }

-- the worker offers to run it: it says so, doesn't report a failure, and isn't disabled
abbrev pub offers : AddTask → State → Bool
offers ask s = ask.runnable && not (is_status Failed (status_of ask.status)) && not (is_disabled ask.worker s.workers)

-- priority, policy and worker
abbrev pub offered : AddTask → State → State
offered ask s =
    let policy = policy_with ask.retry_policy (policy_of s.settings) in
    let here = task_changed ask (with_policy policy) (urged ask s) in
    if offers ask s then task_changed ask (runnable_by ask.worker) here else here
