-- Which states there are. This project's own, after Luigi's central scheduler.
use Rattle.std.specs.Prelude.{◌≡◌, ℕ, ◌^◌, ◌<◌, ◌≤◌, Bool, true, false, IsTrue, Option, is_some, IsSome, IfSome, List, map, length, All}
use Rattle.std.specs.Ordering.{nat_cmp, is_lt, ordering_then}
use Rattle.std.specs.Cmp.Lexicographic.{slice_cmp}
use Rattle.lg_base.specs.declared.moment.Moment.{Moment}
use Rattle.lg_base.specs.Names.{AreInOrder}
use Rattle.lg_retry.specs.declared.policy.Policy.{Policy}
use Rattle.lg_retry.specs.Failures.{History, DoNotFall}
use Rattle.lg_calls.specs.declared.batcher.BatcherRec.{BatcherRec}
use Rattle.lg_calls.specs.declared.state.State.{State}
use Rattle.lg_calls.specs.declared.status.Status.{Status}
use Rattle.lg_calls.specs.declared.status.Status.TheVariants.{Pending, Running, BatchRunning, Done, Failed, Disabled, Unknown}
use Rattle.lg_calls.specs.declared.worker.WorkerRec.{WorkerRec}
use Rattle.lg_calls.specs.Order.{all_pairs, are_sorted, are_distinct}
use Rattle.lg_calls.specs.Settings.{AreInRange}
use Rattle.lg_calls.specs.Task.{Task}
use Rattle.lg_calls.specs.Tasks.{have_distinct_ids, have_rising_numbers}

-- the task runs, alone or in a batch
abbrev pub is_running : Status → Bool
is_running Pending = false
is_running Running = true
is_running BatchRunning = true
is_running Done = false
is_running Failed = false
is_running Disabled = false
is_running Unknown = false

-- a moment isn't later than another, where there is one
abbrev pub NotLater : Option Moment → Moment → Type 0
NotLater when now = IfSome when (λ moment. moment.0 ≤ now.0)

-- a moment is below 2^63, where there is one
abbrev pub FitsMoment : Option Moment → Type 0
FitsMoment when = IfSome when (λ moment. moment.0 < 2 ^ 63)

-- no failure is later than the moment, and none later than the one behind it
pub record IsValidHistory (now : Moment) (history : History) : Type 0 where
  pub first : NotLater history.first now
  pub moments : All (λ moment. moment.0 ≤ now.0) history.moments
  pub in_order : DoNotFall history.moments

-- a policy's numbers are below 2^63
pub record IsValidPolicy (policy : Policy) : Type 0 where
  pub retry_count : policy.retry_count < 2 ^ 63
  pub disable_window : policy.disable_window < 2 ^ 63
  pub disable_hard_timeout : policy.disable_hard_timeout < 2 ^ 63

-- a task of a state with this moment
pub record IsValidTask (now : Moment) (task : Task) : Type 0 where
  pub params : AreInOrder task.params
  pub deps : IsTrue (are_sorted task.deps)
  pub workers : IsTrue (are_distinct task.workers)
  pub stakeholders : IsTrue (are_sorted task.stakeholders)
  pub worker_running : is_some task.worker_running ≡ is_running task.status
  pub time_running : is_some task.time_running ≡ is_running task.status
  pub batch : IsSome task.batch → IsTrue (is_running task.status)
  pub in_batch : task.status ≡ BatchRunning → IsSome task.batch
  pub disabled : IsSome task.disabled_at → task.status ≡ Disabled
  pub failed : task.status ≡ Failed → IsSome task.retry
  pub added : task.added.0 ≤ now.0
  pub updated : task.updated.0 ≤ now.0
  pub running_since : NotLater task.time_running now
  pub disabled_at : NotLater task.disabled_at now
  pub failures : IsValidHistory now task.failures
  pub policy : IsValidPolicy task.policy
  pub retry : FitsMoment task.retry
  pub remove : FitsMoment task.remove

-- a worker of a state with this moment
pub record IsValidWorker (now : Moment) (worker : WorkerRec) : Type 0 where
  pub started : worker.started.0 ≤ now.0
  pub last_active : worker.last_active.0 ≤ now.0
  pub last_get_work : NotLater worker.last_get_work now
  pub info : AreInOrder worker.info

-- a batcher's greatest number of tasks is below 2^63
pub record IsValidBatcher (batcher : BatcherRec) : Type 0 where
  pub size : IfSome batcher.size (λ most. most < 2 ^ 63)

-- one batcher stands before another: by their workers, and then by their families
abbrev pub batcher_is_before : BatcherRec → BatcherRec → Bool
batcher_is_before one other =
    is_lt (ordering_then (slice_cmp nat_cmp one.worker other.worker) (slice_cmp nat_cmp one.family other.family))

-- the ids of workers
abbrev pub worker_ids_of : List WorkerRec → List (List ℕ)
worker_ids_of workers = map (λ worker. worker.id) workers

-- a state that a scheduler can have
pub record IsValidState (s : State) : Type 0 where
  pub moment_in_range : s.moment.0 < 2 ^ 62
  pub pruned_before : NotLater s.pruned s.moment
  pub next_in_range : s.next ≤ 2 ^ 62
  pub settings_in_range : AreInRange s.settings
  pub few_tasks : length s.tasks ≤ 1000000
  pub ids_differ : IsTrue (have_distinct_ids s.tasks)
  pub numbers_rise : IsTrue (have_rising_numbers s.tasks)
  pub numbers_below_next : All (λ task. task.number < s.next) s.tasks
  pub tasks : All (IsValidTask s.moment) s.tasks
  pub workers_in_order : IsTrue (are_sorted (worker_ids_of s.workers))
  pub workers : All (IsValidWorker s.moment) s.workers
  pub batchers_in_order : IsTrue (all_pairs batcher_is_before s.batchers)
  pub batchers : All IsValidBatcher s.batchers
