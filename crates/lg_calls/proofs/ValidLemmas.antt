-- A valid state at a later moment.
use Rattle.std.proofs.Common.{◌^◌, ◌<◌, ◌≤◌, Option, Some, None, arith}
use Rattle.lg_base.specs.Amounts.{AmountsByName}
use Rattle.lg_base.specs.declared.moment.Moment.{Moment}
use Rattle.lg_retry.specs.Failures.{History}
use Rattle.lg_calls.specs.declared.state.State.{State}
use Rattle.lg_calls.specs.declared.worker.WorkerRec.{WorkerRec}
use Rattle.lg_calls.specs.Task.{Task}
use Rattle.lg_calls.specs.Valid.{NotLater, IsValidHistory, IsValidTask, IsValidWorker, IsValidState}

-- what isn't later than a moment isn't later than a later one
not_later-rise : (when : Option Moment) (now later : Moment) → now.0 ≤ later.0 → NotLater when now → NotLater when later
not_later-rise None now later rises holds = tt
not_later-rise (Some moment) now later rises holds = omega arith

history-rise : (history : History) (now later : Moment) → now.0 ≤ later.0 → IsValidHistory now history → IsValidHistory later history
history-rise history now later rises valid = record {
  first = not_later-rise history.first now later rises valid.first;
  moments = λ k d inside. let old = valid.moments k d inside in omega (arith, old, rises);
  in_order = valid.in_order;
}

task-rise : (now later : Moment) (task : Task) → now.0 ≤ later.0 → IsValidTask now task → IsValidTask later task
task-rise now later task rises valid = record {
  params = valid.params;
  deps = valid.deps;
  workers = valid.workers;
  stakeholders = valid.stakeholders;
  worker_running = valid.worker_running;
  time_running = valid.time_running;
  batch = valid.batch;
  in_batch = valid.in_batch;
  disabled = valid.disabled;
  failed = valid.failed;
  added = omega (arith, valid.added, rises);
  updated = omega (arith, valid.updated, rises);
  running_since = not_later-rise task.time_running now later rises valid.running_since;
  disabled_at = not_later-rise task.disabled_at now later rises valid.disabled_at;
  failures = history-rise task.failures now later rises valid.failures;
  policy = valid.policy;
  retry = valid.retry;
  remove = valid.remove;
}

worker-rise : (now later : Moment) (worker : WorkerRec) → now.0 ≤ later.0 → IsValidWorker now worker → IsValidWorker later worker
worker-rise now later worker rises valid = record {
  started = omega (arith, valid.started, rises);
  last_active = omega (arith, valid.last_active, rises);
  last_get_work = not_later-rise worker.last_get_work now later rises valid.last_get_work;
  info = valid.info;
}

-- a valid state is valid at a later moment, with a last pruning that isn't later, and with any limits
pub state-rise : (s : State) (later : Moment) (last : Option Moment) (limits : AmountsByName)
    → s.moment.0 ≤ later.0 → later.0 < 2 ^ 62 → NotLater last later → IsValidState s → IsValidState (record s { moment = later; pruned = last; limits = limits })
state-rise s later last limits rises in_range not_later valid = record {
  moment_in_range = in_range;
  pruned_before = not_later;
  next_in_range = valid.next_in_range;
  settings_in_range = valid.settings_in_range;
  few_tasks = valid.few_tasks;
  ids_differ = valid.ids_differ;
  numbers_rise = valid.numbers_rise;
  numbers_below_next = valid.numbers_below_next;
  tasks = λ k d inside. task-rise s.moment later _ rises (valid.tasks k d inside);
  workers_in_order = valid.workers_in_order;
  workers = λ k d inside. worker-rise s.moment later _ rises (valid.workers k d inside);
  batchers_in_order = valid.batchers_in_order;
  batchers = valid.batchers;
}
