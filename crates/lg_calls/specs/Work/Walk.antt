-- Which tasks a worker's search goes over, and in which order. This project's own, after Luigi's central scheduler.
use Rattle.std.specs.FinMap.{entries}
use Rattle.std.specs.Prelude.{ℕ, Bool, true, false, not, ◌&&◌, ◌||◌, if◌then◌else◌, Option, List, [], codes, filter, find}
use Rattle.std.specs.List.{list_all, list_any}
use Rattle.std.specs.Option.{option_map, option_map_or}
use Rattle.lg_calls.specs.declared.info.Info.{Info}
use Rattle.lg_calls.specs.declared.info.Info.TheVariants as I
use Rattle.lg_calls.specs.declared.state.State.{State}
use Rattle.lg_calls.specs.declared.status.Status.TheVariants.{Pending, Running}
use Rattle.lg_calls.specs.declared.worker.WorkerRec.{WorkerRec}
use Rattle.lg_calls.specs.Order.{is_same}
use Rattle.lg_calls.specs.Status.{is_status}
use Rattle.lg_calls.specs.Task.{Task}
use Rattle.lg_calls.specs.Use.{used}
use Rattle.lg_calls.specs.Workers.{find_worker}
use Rattle.lg_calls.specs.Work.Rank.{by_rank}

-- what a worker told of itself under a name
abbrev pub info_of : List ℕ → WorkerRec → Option Info
info_of name worker = option_map (λ pair. pair.1) (find (λ pair. is_same name pair.0) worker.info)

abbrev pub is_true : Info → Bool
is_true (I.Truth truth) = truth
is_true _ = false

-- a worker is an assistant: it told so, or asked for work as one
abbrev pub is_assistant : WorkerRec → Bool
is_assistant worker = option_map_or is_true (info_of (codes "assistant") worker) false

-- a task names a worker, as one of those that can run it
abbrev pub names : List ℕ → Task → Bool
names worker task = list_any (is_same worker) task.workers

-- no resource is named, with whatever amount
abbrev pub has_no_resources : Task → Bool
has_no_resources task = is_empty (entries task.resources) where
  is_empty : List (List ℕ × ℕ) → Bool
  is_empty [] = true
  is_empty _ = false

-- the PENDING tasks that name a worker
abbrev pub pending_of : List ℕ → List Task → List Task
pending_of worker tasks = filter (λ task. is_status Pending task.status && names worker task) tasks

-- a worker is trivial: it is no assistant, and no PENDING task that names it has resources
abbrev pub is_trivial : List ℕ → State → Bool
is_trivial worker s =
    not (option_map_or is_assistant (find_worker worker s.workers) false) && list_all has_no_resources (pending_of worker s.tasks)

-- a task may stand in a walk: it is PENDING, or RUNNING
abbrev pub can_be_walked : Task → Bool
can_be_walked task = is_status Pending task.status || is_status Running task.status

-- a trivial worker goes over the tasks that name it, every other one over all
abbrev pub goes_over : Bool → List ℕ → Task → Bool
goes_over trivial worker task = can_be_walked task && (not trivial || names worker task)

-- the tasks that a worker's search goes over, in the order of their rank
unfoldable pub walk : List ℕ → State → List Task
walk worker s = by_rank (filter (goes_over (is_trivial worker s) worker) s.tasks)

-- what is taken of a resource already, as a worker's search sees it: nothing for a trivial one, which takes none itself
abbrev pub taken : List ℕ → State → List ℕ → ℕ
taken worker s name = if is_trivial worker s then 0 else used s name
