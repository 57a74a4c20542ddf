-- How much there is to do for a worker. This project's own, after Luigi's central scheduler.
use Rattle.std.specs.Prelude.{ℕ, ◌-◌, nat_eq, Bool, false, not, ◌&&◌, ◌||◌, Option, List, [], ◌∷◌, ◌++◌, codes, is_some, if◌then◌else◌, length, count_by, filter, option_and_then}
use Rattle.std.specs.List.{filter_map, slice_get}
use Rattle.std.specs.Option.{option_map, option_map_or}
use Rattle.lg_calls.specs.declared.state.State.{State}
use Rattle.lg_calls.specs.declared.status.Status.TheVariants.{Pending, Running, Failed}
use Rattle.lg_calls.specs.declared.worker.WorkerRec.{WorkerRec}
use Rattle.lg_calls.specs.Order.{is_same}
use Rattle.lg_calls.specs.Status.{is_status}
use Rattle.lg_calls.specs.Task.{Task}
use Rattle.lg_calls.specs.Upstream.{is_hopeless}
use Rattle.lg_calls.specs.Views.Trees.{Fields, record_of, number}
use Rattle.lg_calls.specs.Views.Workers.{infos_shown, state_word}
use Rattle.lg_calls.specs.Work.Walk.{names}
use Rattle.lg_calls.specs.Workers.{find_worker, is_disabled}
use Rattle.lg_json.specs.Tree.{Tree, str, list, trees_of}

-- a task is left to do: it is PENDING, or failed and will be tried again
abbrev pub is_left : Task → Bool
is_left task = is_status Pending task.status || is_status Failed task.status

-- a task counts for a worker: it names the worker, and isn't hopeless
abbrev pub counts_for : List ℕ → List Task → Task → Bool
counts_for worker tasks task = names worker task && not (is_hopeless tasks task)

-- what is left to do for a worker
abbrev pub left_for : List ℕ → List Task → List Task
left_for worker tasks = filter (λ task. is_left task && counts_for worker tasks task) tasks

-- the task names one worker alone
abbrev pub names_one : Task → Bool
names_one task = nat_eq (length task.workers) 1

-- the worker is the last one that the task names
abbrev pub is_last_of : List ℕ → Task → Bool
is_last_of worker task = option_map_or (is_same worker) (slice_get task.workers (length task.workers - 1)) false

-- what runs for a worker
abbrev pub running_for : List ℕ → List Task → List Task
running_for worker tasks = filter (λ task. is_status Running task.status && counts_for worker tasks task) tasks

-- the worker that runs a task, if it is known
abbrev pub runner_of : State → Task → Option WorkerRec
runner_of s task = option_and_then (λ id. find_worker id s.workers) task.worker_running

-- a task that runs, with what is known of the worker that runs it
abbrev pub run_shown : Task → WorkerRec → Tree
run_shown task runner = record_of (
    (codes "info", infos_shown runner) ∷
    (codes "task_id", str task.id) ∷
    (codes "worker", str runner.id) ∷ [])

-- what runs for a worker, in the order of the tasks; left out where the worker that runs it isn't known
abbrev pub runs_shown : List ℕ → State → List Tree
runs_shown worker s = filter_map (λ task. option_map (run_shown task) (runner_of s task)) (running_for worker s.tasks)

-- three numbers of tasks, and what runs
abbrev pub count_fields : ℕ → ℕ → ℕ → List Tree → Fields
count_fields last_scheduled pending unique running =
    (codes "n_pending_last_scheduled", number last_scheduled) ∷
    (codes "n_pending_tasks", number pending) ∷
    (codes "n_unique_pending", number unique) ∷
    (codes "running_tasks", list (trees_of running)) ∷ []

-- nothing is left, and nothing runs
abbrev pub no_counts : Fields
no_counts = count_fields 0 0 0 []

-- those of a worker that is known
abbrev pub known_counts : List ℕ → List Task → State → Fields
known_counts worker left s = count_fields (count_by (is_last_of worker) left) (length left) (count_by names_one left) (runs_shown worker s)

-- those of a worker; there is nothing for one that isn't known
unfoldable pub counts_of : List ℕ → State → Fields
counts_of worker s = if is_some (find_worker worker s.workers) then known_counts worker (left_for worker s.tasks) s else no_counts

-- whether a worker gets work; one that isn't known does
abbrev pub state_field : List ℕ → State → Fields
state_field worker s = (codes "worker_state", str (state_word (is_disabled worker s.workers))) ∷ []

-- the reply to a worker that asks how much there is to do
unfoldable pub pending_counts : List ℕ → State → Tree
pending_counts worker s = record_of (counts_of worker s ++ state_field worker s)
