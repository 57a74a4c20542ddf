-- What a task's record stands for.
use Rattle.lg_calls.specs.declared.task.TaskRec.TheInside.{Inside}
use Rattle.lg_calls.specs.Task.{Task}

-- the room for more failures doesn't count
abbrev pub task_of : Inside → Task
task_of t = record {
  id = t.id;
  number = t.number;
  family = t.family;
  «module» = t.«module»;
  params = t.params;
  status = t.status;
  deps = t.deps;
  workers = t.workers;
  stakeholders = t.stakeholders;
  priority = t.priority;
  resources = t.resources;
  added = t.added;
  updated = t.updated;
  runnable = t.runnable;
  batchable = t.batchable;
  accepts_messages = t.accepts_messages;
  worker_running = t.worker_running;
  time_running = t.time_running;
  batch = t.batch;
  failures = t.failures.history;
  policy = t.policy;
  retry = t.retry;
  disabled_at = t.disabled_at;
  remove = t.remove;
  expl = t.expl;
  tracking_url = t.tracking_url;
  status_message = t.status_message;
  progress = t.progress;
}
