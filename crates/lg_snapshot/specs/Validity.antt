-- Whether a state is valid, as tests that can be made. This project's own, after what `lg_calls` says of valid states.
use Rattle.std.specs.Prelude.{ℕ, ◌^◌, ◌&&◌, nat_lt, nat_le, Bool, true, not, Option, Some, None, is_some, List, length}
use Rattle.std.specs.List.{list_all}
use Rattle.lg_base.specs.declared.moment.Moment.{Moment}
use Rattle.lg_calls.specs.declared.batcher.BatcherRec.{BatcherRec}
use Rattle.lg_calls.specs.declared.settings.Settings.{Settings}
use Rattle.lg_calls.specs.declared.state.State.{State}
use Rattle.lg_calls.specs.declared.status.Status.{Status}
use Rattle.lg_calls.specs.declared.status.Status.TheVariants.{Pending, Running, BatchRunning, Done, Failed, Disabled, Unknown}
use Rattle.lg_calls.specs.declared.worker.WorkerRec.{WorkerRec}
use Rattle.lg_calls.specs.Order.{is_before, all_pairs, are_distinct}
use Rattle.lg_calls.specs.Settings.{max_time, max_count}
use Rattle.lg_calls.specs.Task.{Task}
use Rattle.lg_calls.specs.Tasks.{ids_of}
use Rattle.lg_calls.specs.Valid.{batcher_is_before}
use Rattle.lg_retry.specs.declared.policy.Policy.{Policy}

-- a moment isn't later than another, where there is one
abbrev pub is_not_later : Option Moment → Moment → Bool
is_not_later None now = true
is_not_later (Some when) now = nat_le when.0 now.0

-- a number is below 2^63, where there is one
abbrev pub fits : Option ℕ → Bool
fits None = true
fits (Some n) = nat_lt n (2 ^ 63)

abbrev pub fits_moment : Option Moment → Bool
fits_moment None = true
fits_moment (Some when) = nat_lt when.0 (2 ^ 63)

-- no worker runs the task, since no moment and in no batch
abbrev pub rests : Task → Bool
rests task = not (is_some task.worker_running) && not (is_some task.time_running) && not (is_some task.batch)

-- a worker runs the task, since a moment
abbrev pub runs : Task → Bool
runs task = is_some task.worker_running && is_some task.time_running

-- the task has what its status asks for
abbrev pub suits : Status → Task → Bool
suits Pending task = rests task && not (is_some task.disabled_at)
suits Running task = runs task && not (is_some task.disabled_at)
suits BatchRunning task = runs task && is_some task.batch && not (is_some task.disabled_at)
suits Done task = rests task && not (is_some task.disabled_at)
suits Failed task = rests task && not (is_some task.disabled_at) && is_some task.retry
suits Disabled task = rests task
suits Unknown task = rests task && not (is_some task.disabled_at)

abbrev pub policy_fits : Policy → Bool
policy_fits policy =
    nat_lt policy.retry_count (2 ^ 63) && nat_lt policy.disable_window (2 ^ 63)
    && nat_lt policy.disable_hard_timeout (2 ^ 63)

-- one moment isn't later than another
abbrev pub does_not_fall : Moment → Moment → Bool
does_not_fall one other = nat_le one.0 other.0

-- none of the moments is later than another
abbrev pub are_not_later : Moment → List Moment → Bool
are_not_later now moments = list_all (λ when. nat_le when.0 now.0) moments

-- no failure is later than the moment
abbrev pub failures_pass : Moment → Task → Bool
failures_pass now task = is_not_later task.failures.first now && are_not_later now task.failures.moments

abbrev pub history_passes : Moment → Task → Bool
history_passes now task = failures_pass now task && all_pairs does_not_fall task.failures.moments

abbrev pub moments_pass : Moment → Task → Bool
moments_pass now task =
    nat_le task.added.0 now.0 && nat_le task.updated.0 now.0 && is_not_later task.time_running now
    && is_not_later task.disabled_at now && fits_moment task.retry && fits_moment task.remove

-- the names rise
abbrev pub name_is_before : {X : Type 0} → List ℕ × X → List ℕ × X → Bool
name_is_before one other = is_before one.0 other.0

abbrev pub lists_pass : Task → Bool
lists_pass task =
    all_pairs name_is_before task.params && all_pairs is_before task.deps && all_pairs is_before task.stakeholders

-- a task passes, but that its workers have to differ
abbrev pub task_passes : Moment → Task → Bool
task_passes now task =
    suits task.status task && moments_pass now task && history_passes now task && policy_fits task.policy
    && lists_pass task

abbrev pub worker_passes : Moment → WorkerRec → Bool
worker_passes now worker =
    nat_le worker.started.0 now.0 && nat_le worker.last_active.0 now.0 && is_not_later worker.last_get_work now
    && all_pairs name_is_before worker.info

abbrev pub batcher_passes : BatcherRec → Bool
batcher_passes batcher = fits batcher.size

abbrev pub times_pass : Settings → Bool
times_pass s =
    nat_le s.retry_delay max_time && nat_le s.remove_delay max_time && nat_le s.worker_disconnect_delay max_time
    && nat_le s.disable_window max_time && nat_le s.disable_hard_timeout max_time && nat_le s.disable_persist max_time
    && nat_le s.stable_done_cooldown max_time

abbrev pub counts_pass : Settings → Bool
counts_pass s =
    nat_le s.retry_count max_count && nat_le s.max_shown_tasks max_count && nat_le s.max_graph_nodes max_count
    && nat_le 1 s.max_tasks && nat_le s.max_tasks 1000000

-- the numbers of a state
abbrev pub numbers_pass : State → Bool
numbers_pass s =
    nat_lt s.moment.0 (2 ^ 62) && is_not_later s.pruned s.moment && nat_le s.next (2 ^ 62)
    && nat_le (length s.tasks) 1000000

-- a task of a state that passes
abbrev pub passes_in : Moment → ℕ → Task → Bool
passes_in now next task = nat_lt task.number next && task_passes now task && are_distinct task.workers

abbrev pub number_is_before : Task → Task → Bool
number_is_before one other = nat_lt one.number other.number

abbrev pub worker_is_before : WorkerRec → WorkerRec → Bool
worker_is_before one other = is_before one.id other.id

-- the lists of a state are in order
abbrev pub orders_pass : State → Bool
orders_pass s =
    all_pairs number_is_before s.tasks && all_pairs worker_is_before s.workers
    && all_pairs batcher_is_before s.batchers

-- the settings, and the smaller records
abbrev pub records_pass : State → Bool
records_pass s =
    times_pass s.settings && counts_pass s.settings && list_all (worker_passes s.moment) s.workers
    && list_all batcher_passes s.batchers

-- all that is looked at without memory
abbrev pub outside_passes : State → Bool
outside_passes s = numbers_pass s && orders_pass s && records_pass s

-- a state passes
unfoldable pub passes : State → Bool
passes s = outside_passes s && are_distinct (ids_of s.tasks) && list_all (passes_in s.moment s.next) s.tasks
