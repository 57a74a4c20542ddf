-- A task is made. This project's own, after Luigi's central scheduler.
use Rattle.std.specs.Prelude.{ℕ, ◌+◌, ℤ, false, is_some, if◌then◌else◌, Option, None, List, []}
use Rattle.std.specs.FinMap.{empty}
use Rattle.lg_retry.specs.Failures.{no_failures}
use Rattle.lg_calls.specs.declared.state.State.{State}
use Rattle.lg_calls.specs.declared.status.Status.{Status}
use Rattle.lg_calls.specs.Settings.{policy_of}
use Rattle.lg_calls.specs.Task.{Task}
use Rattle.lg_calls.specs.Tasks.{find_task, append_task}

-- A task of which only its id, its status and its priority are known. It gets the next number.
abbrev pub new_task : Status → ℤ → List ℕ → State → Task
new_task status priority id s = record {
  id = id;
  number = s.next;
  family = [];
  «module» = None;
  params = [];
  status = status;
  deps = [];
  workers = [];
  stakeholders = [];
  priority = priority;
  resources = empty;
  added = s.moment;
  updated = s.moment;
  runnable = false;
  batchable = false;
  accepts_messages = false;
  worker_running = None;
  time_running = None;
  batch = None;
  failures = no_failures;
  policy = policy_of s.settings;
  retry = None;
  disabled_at = None;
  remove = None;
  expl = None;
  tracking_url = None;
  status_message = None;
  progress = None;
}

-- a task more, behind the others
abbrev pub made : Status → ℤ → List ℕ → State → State
made status priority id s = record s { tasks = append_task s.tasks (new_task status priority id s); next = s.next + 1 }

-- the task of an id is made where it isn't known
abbrev pub with_task : Status → ℤ → State → List ℕ → State
with_task status priority s id = if is_some (find_task id s.tasks) then s else made status priority id s
