-- What the change of status leaves, and what it begins; what `add_task` leaves. This project's own.
use Rattle.std.specs.Prelude.{◌≡◌, ℕ, Some, None, List, [], ◌++◌, map, All}
use Rattle.lg_base.specs.declared.moment.Moment.{Moment}
use Rattle.lg_retry.specs.Failures.{no_failures}
use Rattle.lg_calls.specs.declared.status.Status.TheVariants.{Pending, Failed}
use Rattle.lg_calls.specs.Task.{Task}

-- what a change of status isn't about: all of a task but its status, its run, its failures and the moments that hang on them
abbrev pub rest_of : Task → Task
rest_of task = record task {
  status = Pending;
  updated = record { 0 = 0 };
  worker_running = None;
  time_running = None;
  batch = None;
  failures = no_failures;
  retry = None;
  disabled_at = None;
  remove = None;
}

-- a task runs on: with the same worker, since the same moment and in the same batch
pub record RunsOn (before after : Task) : Type 0 where
  pub worker : after.worker_running ≡ before.worker_running
  pub since : after.time_running ≡ before.time_running
  pub batch : after.batch ≡ before.batch

-- a task begins anew: it counts as failed, without a failure, and is tried again at this moment
pub record BeginsAnew (retry : Moment) (task : Task) : Type 0 where
  pub status : task.status ≡ Failed
  pub failures : task.failures ≡ no_failures
  pub disabled_at : task.disabled_at ≡ None
  pub retry_at : task.retry ≡ Some retry

-- a list goes on in another: all stays in its order, and more comes behind it
abbrev pub GoesOn : {X : Type 0} → List X → List X → Type 0
GoesOn {X} before after = (more : List X) × (after ≡ before ++ more)

-- a task by its id, with its number
abbrev pub numbered : Task → List ℕ × ℕ
numbered task = (task.id, task.number)

-- the stakeholders of tasks
abbrev pub stakeholders_of : List Task → List (List (List ℕ))
stakeholders_of tasks = map (λ task. task.stakeholders) tasks

-- nobody becomes a stakeholder: each task has those that it had, and the tasks that come behind have none
abbrev pub GainsNobody : List Task → List Task → Type 0
GainsNobody before after =
    (more : List (List (List ℕ))) × (stakeholders_of after ≡ stakeholders_of before ++ more) × All (λ who. who ≡ []) more
