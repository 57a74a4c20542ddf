-- The status that `add_task` reports, and what a task needs. This project's own, after Luigi's central scheduler.
use Rattle.std.specs.Prelude.{ℕ, Bool, true, false, not, ◌&&◌, ◌||◌, if◌then◌else◌, Option, Some, unwrap_or, List, [], fold, find}
use Rattle.std.specs.BTreeSet.{replace_key}
use Rattle.std.specs.Option.{option_map_or}
use Rattle.std.specs.Ordering.{nat_cmp}
use Rattle.std.specs.Cmp.Lexicographic.{slice_cmp}
use Rattle.lg_base.specs.declared.moment.Moment.{Moment}
use Rattle.lg_base.specs.Amounts.{AmountsByName}
use Rattle.lg_calls.specs.declared.methods.add_task.AddTask.{AddTask}
use Rattle.lg_calls.specs.declared.state.State.{State}
use Rattle.lg_calls.specs.declared.status.Reported.{Reported}
use Rattle.lg_calls.specs.declared.status.Reported.TheVariants as R
use Rattle.lg_calls.specs.declared.status.Status.{Status}
use Rattle.lg_calls.specs.declared.status.Status.TheVariants as S
use Rattle.lg_calls.specs.Order.{is_same}
use Rattle.lg_calls.specs.Status.{is_status, runs_in, set_status}
use Rattle.lg_calls.specs.Task.{Task}
use Rattle.lg_calls.specs.Valid.{is_running}
use Rattle.lg_calls.specs.Running.{run_by}
use Rattle.lg_calls.specs.AddTask.Describing.{by_task, task_changed}

-- the status that a report is of: a task that is suspended is pending
abbrev pub status_of : Reported → Status
status_of R.Pending = S.Pending
status_of R.Running = S.Running
status_of R.Done = S.Done
status_of R.Failed = S.Failed
status_of R.Disabled = S.Disabled
status_of R.Unknown = S.Unknown
status_of R.Suspended = S.Pending

-- this worker runs the task
abbrev pub runs_for : List ℕ → Task → Bool
runs_for worker task = option_map_or (is_same worker) task.worker_running false

-- what a worker may report of a task that it runs
abbrev pub is_of_run : Reported → Bool
is_of_run R.Pending = false
is_of_run R.Running = true
is_of_run R.Done = true
is_of_run R.Failed = true
is_of_run R.Disabled = false
is_of_run R.Unknown = false
is_of_run R.Suspended = false

abbrev pub is_nonempty : List (List ℕ) → Bool
is_nonempty [] = false
is_nonempty _ = true

-- the status counts: the task doesn't run, its own worker reports of the run, or dependencies came up
abbrev pub counts : AddTask → Task → Bool
counts ask task =
    not (is_running task.status) || (is_of_run ask.status && runs_for ask.worker task) || is_nonempty ask.new_deps

-- a task that is RUNNING is run by the worker of the call, from now on, in the batch that is given
abbrev pub run_begun : AddTask → Moment → Task → Task
run_begun ask now task = if is_status S.Running task.status then run_by ask.worker now ask.batch_id task else task

-- the task is set to the status, and if it runs now and didn't before, it begins to; `before` is the status that it had
abbrev pub status_counted : AddTask → Status → State → State
status_counted ask before s =
    let after = set_status s ask.task_id (status_of ask.status) in
    if is_running before then after else task_changed ask (run_begun ask s.moment) after

abbrev pub status_reported : AddTask → Task → State → State
status_reported ask task s = if counts ask task then status_counted ask task.status s else s

-- the ids in the order of their bytes, each once
abbrev pub with_ids : List (List ℕ) → List (List ℕ) → List (List ℕ)
with_ids known more = fold (replace_key (slice_cmp nat_cmp)) known more

-- those that are given replace the task's dependencies, and those that came up are added
abbrev pub deps_behind : AddTask → Task → List (List ℕ)
deps_behind ask task = with_ids (option_map_or (with_ids []) ask.deps task.deps) ask.new_deps

abbrev pub with_deps : AddTask → Task → Task
with_deps ask task = record task { deps = deps_behind ask task }

-- a task became RUNNING that wasn't before
abbrev pub became_running : Status → Status → Bool
became_running before after = is_status S.Running after && not (is_status S.Running before)

-- the resources are replaced where the task doesn't run, or became RUNNING just now
abbrev pub replaces_resources : Status → Task → Bool
replaces_resources before task = not (is_running task.status) || became_running before task.status

-- those that are given, or for a claim that became RUNNING just now those of the first task of its batch
abbrev pub resources_given : AddTask → Status → Task → List Task → AmountsByName
resources_given ask before task tasks =
    if became_running before task.status
    then option_map_or (λ first. first.resources) (find (runs_in task.batch) tasks) ask.resources
    else ask.resources

-- the resources that the task has behind the step
abbrev pub resources_behind : AddTask → Status → Task → List Task → AmountsByName
resources_behind ask before task tasks =
    if replaces_resources before task then resources_given ask before task tasks else task.resources

abbrev pub with_resources : AmountsByName → Task → Task
with_resources resources task = record task { resources = resources }

abbrev pub resources_set : AddTask → Status → Task → State → State
resources_set ask before task s = task_changed ask (with_resources (resources_behind ask before task s.tasks)) s

-- what the task needs: dependencies, and resources
abbrev pub needs_reported : AddTask → Status → State → State
needs_reported ask before s = by_task ask (resources_set ask before) (task_changed ask (with_deps ask) s)

-- the status, and behind it what the task needs
abbrev pub task_reported : AddTask → State → State
task_reported ask s = by_task ask (λ task here. needs_reported ask task.status (status_reported ask task here)) s
