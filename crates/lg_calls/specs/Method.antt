-- The methods of the scheduler's RPC. This project's own, after Luigi's RPC.
use Rattle.std.specs.Prelude.{ℕ, List, [], ◌∷◌, Bool, true, false, codes, if◌then◌else◌, Option, Some, None, option_map, Result, Ok, Err}
use Rattle.std.specs.List.{find}
use Rattle.std.specs.Str.{bytes_eq}
use Rattle.lg_calls.specs.declared.method.Method.{Method}
use Rattle.lg_calls.specs.declared.method.Method.TheVariants.{AddTask, AddTaskBatcher, AddWorker, AnnounceSchedulingFailure, CountPending, DisableWorker, FetchError, ForgiveFailures, GetRunningTaskResources, GetTaskProgressPercentage, GetTaskStatusMessage, GetWork, HasTaskHistory, IsPauseEnabled, IsPaused, MarkAsDone, Pause, Ping, Prune, ReEnableTask, ResourceList, Resources, SetTaskProgressPercentage, SetTaskStatusMessage, StatusCounts, Stop, TaskList, TaskSearch, Unpause, UpdateResource, UpdateResources, WorkerList}
use Rattle.lg_calls.specs.declared.method.MethodFault.{MethodFault}
use Rattle.lg_calls.specs.declared.method.MethodFault.TheVariants.{UnknownMethod, NotBuilt}

-- a name, the method that it is of, and whether that is built
abbrev pub MethodRow : Type 0
MethodRow = List ℕ × Method × Bool

unfoldable pub methods : List MethodRow
methods =
    (codes "add_task", AddTask, true)
    ∷ (codes "add_task_batcher", AddTaskBatcher, false)
    ∷ (codes "add_worker", AddWorker, true)
    ∷ (codes "announce_scheduling_failure", AnnounceSchedulingFailure, true)
    ∷ (codes "count_pending", CountPending, true)
    ∷ (codes "disable_worker", DisableWorker, true)
    ∷ (codes "fetch_error", FetchError, true)
    ∷ (codes "forgive_failures", ForgiveFailures, true)
    ∷ (codes "get_running_task_resources", GetRunningTaskResources, false)
    ∷ (codes "get_task_progress_percentage", GetTaskProgressPercentage, false)
    ∷ (codes "get_task_status_message", GetTaskStatusMessage, false)
    ∷ (codes "get_work", GetWork, true)
    ∷ (codes "has_task_history", HasTaskHistory, true)
    ∷ (codes "is_pause_enabled", IsPauseEnabled, true)
    ∷ (codes "is_paused", IsPaused, true)
    ∷ (codes "mark_as_done", MarkAsDone, true)
    ∷ (codes "pause", Pause, true)
    ∷ (codes "ping", Ping, true)
    ∷ (codes "prune", Prune, false)
    ∷ (codes "re_enable_task", ReEnableTask, false)
    ∷ (codes "resource_list", ResourceList, true)
    ∷ (codes "resources", Resources, true)
    ∷ (codes "set_task_progress_percentage", SetTaskProgressPercentage, false)
    ∷ (codes "set_task_status_message", SetTaskStatusMessage, false)
    ∷ (codes "status_counts", StatusCounts, true)
    ∷ (codes "stop", Stop, true)
    ∷ (codes "task_list", TaskList, false)
    ∷ (codes "task_search", TaskSearch, true)
    ∷ (codes "unpause", Unpause, true)
    ∷ (codes "update_resource", UpdateResource, true)
    ∷ (codes "update_resources", UpdateResources, true)
    ∷ (codes "worker_list", WorkerList, false)
    ∷ []

-- the row of that name
abbrev pub row_named : List ℕ → Option MethodRow
row_named name = find (λ row. bytes_eq row.0 name) methods

-- the method of that name, built or not
abbrev pub method_named : List ℕ → Option Method
method_named name = option_map (λ row. row.1) (row_named name)

-- the method of a row, if it is built
abbrev pub built_of : Option MethodRow → Result Method MethodFault
built_of (Some row) = if row.2 then Ok row.1 else Err NotBuilt
built_of None = Err UnknownMethod

-- the method of that name, if it is built
abbrev pub method_asked : List ℕ → Result Method MethodFault
method_asked name = built_of (row_named name)
