-- Reading a task of a snapshot, in six parts. This project's own.
use Rattle.std.specs.Prelude.{codes}
use Rattle.serde_json.specs.Find.{as_bool, as_str}
use Rattle.lg_calls.specs.Task.{Task}
use Rattle.lg_snapshot.specs.declared.task_reading.First.{First}
use Rattle.lg_snapshot.specs.declared.task_reading.Second.{Second}
use Rattle.lg_snapshot.specs.declared.task_reading.Third.{Third}
use Rattle.lg_snapshot.specs.declared.task_reading.Fourth.{Fourth}
use Rattle.lg_snapshot.specs.declared.task_reading.Fifth.{Fifth}
use Rattle.lg_snapshot.specs.declared.task_reading.Sixth.{Sixth}
use Rattle.lg_snapshot.specs.declared.task_reading.Parts.{Parts}
use Rattle.lg_snapshot.specs.Kinds.{number_in, int_in, moment_in, status_in, maybe_in, list_in, pairs_in, amounts_in}
use Rattle.lg_snapshot.specs.Reading.{Reading, ◌>>=◌, done, entry, record_in}
use Rattle.lg_snapshot.specs.RecordReadings.{policy, failures}

unfoldable pub first : Reading First
first =
    entry (codes "accepts_messages") as_bool >>= λ accepts_messages.
    entry (codes "added") moment_in >>= λ added.
    entry (codes "batch") (maybe_in as_str) >>= λ batch.
    entry (codes "batchable") as_bool >>= λ batchable.
    entry (codes "deps") (list_in as_str) >>= λ deps.
    done (record {
      accepts_messages = accepts_messages;
      added = added;
      batch = batch;
      batchable = batchable;
      deps = deps;
    })

unfoldable pub second : Reading Second
second =
    entry (codes "disabled_at") (maybe_in moment_in) >>= λ disabled_at.
    entry (codes "expl") (maybe_in as_str) >>= λ expl.
    entry (codes "failures") (record_in failures) >>= λ history.
    entry (codes "family") as_str >>= λ family.
    entry (codes "id") as_str >>= λ id.
    done (record { disabled_at = disabled_at; expl = expl; failures = history; family = family; id = id })

unfoldable pub third : Reading Third
third =
    entry (codes "module") (maybe_in as_str) >>= λ python_module.
    entry (codes "number") number_in >>= λ number.
    entry (codes "params") (pairs_in as_str) >>= λ params.
    entry (codes "policy") (record_in policy) >>= λ allowed.
    entry (codes "priority") int_in >>= λ priority.
    done (record {
      «module» = python_module;
      number = number;
      params = params;
      policy = allowed;
      priority = priority;
    })

unfoldable pub fourth : Reading Fourth
fourth =
    entry (codes "progress") (maybe_in int_in) >>= λ progress.
    entry (codes "remove") (maybe_in moment_in) >>= λ remove.
    entry (codes "resources") amounts_in >>= λ resources.
    entry (codes "retry") (maybe_in moment_in) >>= λ retry.
    entry (codes "runnable") as_bool >>= λ runnable.
    done (record { progress = progress; remove = remove; resources = resources; retry = retry; runnable = runnable })

unfoldable pub fifth : Reading Fifth
fifth =
    entry (codes "stakeholders") (list_in as_str) >>= λ stakeholders.
    entry (codes "status") status_in >>= λ status.
    entry (codes "status_message") (maybe_in as_str) >>= λ status_message.
    entry (codes "time_running") (maybe_in moment_in) >>= λ time_running.
    done (record {
      stakeholders = stakeholders;
      status = status;
      status_message = status_message;
      time_running = time_running;
    })

unfoldable pub sixth : Reading Sixth
sixth =
    entry (codes "tracking_url") (maybe_in as_str) >>= λ tracking_url.
    entry (codes "updated") moment_in >>= λ updated.
    entry (codes "worker_running") (maybe_in as_str) >>= λ worker_running.
    entry (codes "workers") (list_in as_str) >>= λ workers.
    done (record { tracking_url = tracking_url; updated = updated; worker_running = worker_running; workers = workers })

-- the task of its parts
abbrev pub put_together : Parts → Task
put_together parts = record {
  id = parts.second.id;
  number = parts.third.number;
  family = parts.second.family;
  «module» = parts.third.«module»;
  params = parts.third.params;
  status = parts.fifth.status;
  deps = parts.first.deps;
  workers = parts.sixth.workers;
  stakeholders = parts.fifth.stakeholders;
  priority = parts.third.priority;
  resources = parts.fourth.resources;
  added = parts.first.added;
  updated = parts.sixth.updated;
  runnable = parts.fourth.runnable;
  batchable = parts.first.batchable;
  accepts_messages = parts.first.accepts_messages;
  worker_running = parts.sixth.worker_running;
  time_running = parts.fifth.time_running;
  batch = parts.first.batch;
  failures = record { first = parts.second.failures.first; moments = parts.second.failures.moments };
  policy = parts.third.policy;
  retry = parts.fourth.retry;
  disabled_at = parts.second.disabled_at;
  remove = parts.fourth.remove;
  expl = parts.second.expl;
  tracking_url = parts.sixth.tracking_url;
  status_message = parts.fifth.status_message;
  progress = parts.fourth.progress;
}

unfoldable pub task : Reading Task
task =
    first >>= λ first_part.
    second >>= λ second_part.
    third >>= λ third_part.
    fourth >>= λ fourth_part.
    fifth >>= λ fifth_part.
    sixth >>= λ sixth_part.
    done (put_together (record {
      first = first_part;
      second = second_part;
      third = third_part;
      fourth = fourth_part;
      fifth = fifth_part;
      sixth = sixth_part;
    }))
