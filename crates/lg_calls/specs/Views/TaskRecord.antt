-- What is shown of a task. This project's own, after Luigi's central scheduler.
use Rattle.std.specs.Prelude.{Option, Some, None, is_some, if◌then◌else◌, [], ◌∷◌, ◌++◌, codes}
use Rattle.lg_base.specs.Amounts.{AmountsByName}
use Rattle.lg_calls.specs.declared.status.Status.TheVariants.{Disabled}
use Rattle.lg_calls.specs.Status.{is_status}
use Rattle.lg_calls.specs.Task.{Task}
use Rattle.lg_calls.specs.Valid.{is_running}
use Rattle.lg_json.specs.Tree.{Tree, truth, int, str}
use Rattle.lg_calls.specs.Views.DisplayName.{display_name}
use Rattle.lg_calls.specs.Views.Trees.{Fields, record_of, moment, status, maybe, listed, by_name, amounts}

-- what the task is
abbrev pub about_fields : Task → Fields
about_fields task =
    (codes "accepts_messages", truth task.accepts_messages) ∷
    (codes "display_name", str (display_name task)) ∷
    (codes "last_updated", moment task.updated) ∷
    (codes "name", str task.family) ∷
    (codes "params", by_name str task.params) ∷
    (codes "priority", int task.priority) ∷
    (codes "progress_percentage", maybe int task.progress) ∷ []

-- a disabled task can be enabled again where the scheduler disabled it
abbrev pub enabling_fields : Task → Fields
enabling_fields task =
    if is_status Disabled task.status then ((codes "re_enable_able", truth (is_some task.disabled_at)) ∷ []) else []

-- what a task takes now: what it takes while it runs, and nothing is told of one that doesn't run
abbrev pub taken_by : Task → Option AmountsByName
taken_by task = if is_running task.status then Some task.resources else None

-- how it runs
abbrev pub running_fields : Task → Fields
running_fields task =
    (codes "resources", amounts task.resources) ∷
    (codes "resources_running", maybe amounts (taken_by task)) ∷
    (codes "start_time", moment task.added) ∷
    (codes "status", status task.status) ∷
    (codes "status_message", maybe str task.status_message) ∷
    (codes "time_running", maybe moment task.time_running) ∷
    (codes "tracking_url", maybe str task.tracking_url) ∷
    (codes "worker_running", maybe str task.worker_running) ∷
    (codes "workers", listed str task.workers) ∷ []

-- the record of a task, in the order of the fields' names
unfoldable pub task_record : Task → Tree
task_record task = record_of (about_fields task ++ (enabling_fields task ++ running_fields task))
