-- A task is set to another status by hand. This project's own, after Luigi's central scheduler.
use Rattle.std.specs.Prelude.{ℕ, Bool, true, false, if◌then◌else◌, List, codes}
use Rattle.std.specs.Option.{option_map_or}
use Rattle.lg_json.specs.Tree.{Tree, null, str, object, no_members, member}
use Rattle.lg_calls.specs.declared.state.State.{State}
use Rattle.lg_calls.specs.declared.status.Status.{Status}
use Rattle.lg_calls.specs.declared.status.Status.TheVariants.{Pending, Running, BatchRunning, Done, Failed, Disabled, Unknown}
use Rattle.lg_calls.specs.Outcome.{Outcome, replied}
use Rattle.lg_calls.specs.Status.{set_status}
use Rattle.lg_calls.specs.Task.{Task}
use Rattle.lg_calls.specs.Tasks.{find_task}
use Rattle.lg_calls.specs.Words.{status_word}

-- a task that failed is forgiven
abbrev pub can_be_forgiven : Status → Bool
can_be_forgiven Failed = true
can_be_forgiven _ = false

-- a task that runs by itself, failed or is disabled is taken for done
abbrev pub can_be_done : Status → Bool
can_be_done Running = true
can_be_done Failed = true
can_be_done Disabled = true
can_be_done _ = false

-- the task of an id is set to a status, where its own is one of these
abbrev pub set_where : (Status → Bool) → Status → List ℕ → State → State
set_where is_meant status id s =
    option_map_or (λ (task : Task). if is_meant task.status then set_status s id status else s) (find_task id s.tasks) s

-- the status of the task of an id, null where it isn't known
abbrev pub status_told : List ℕ → State → Tree
status_told id s = option_map_or (λ (task : Task). str (status_word task.status)) (find_task id s.tasks) null

-- what is replied of a task that was set: its status, and its id
abbrev pub settled : List ℕ → State → State × Outcome
settled id s =
    (s, replied (object (member (codes "status") (status_told id s) (member (codes "task_id") (str id) no_members))))

-- a task that failed may run again at once
abbrev pub failures_forgiven : List ℕ → State → State × Outcome
failures_forgiven id s = settled id (set_where can_be_forgiven Pending id s)

-- a task is taken for done
abbrev pub marked_as_done : List ℕ → State → State × Outcome
marked_as_done id s = settled id (set_where can_be_done Done id s)
