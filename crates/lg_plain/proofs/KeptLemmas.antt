-- Changes that keep the id and the number of a task.
use Rattle.std.proofs.Common.{◌≡◌, ℕ, refl, ap}
use Rattle.lg_base.specs.declared.moment.Moment.{Moment}
use Rattle.lg_calls.specs.declared.methods.add_task.AddTask.{AddTask}
use Rattle.lg_calls.specs.declared.status.Status.{Status}
use Rattle.lg_calls.specs.declared.status.Status.TheVariants.{Running}
use Rattle.lg_calls.specs.Status.{is_status, set_alone}
use Rattle.lg_calls.specs.Task.{Task}
use Rattle.lg_calls.specs.Running.{run_by}
use Rattle.lg_calls.specs.AddTask.Reporting.{run_begun}
use Rattle.lg_plain.proofs.ListLemmas.{field-cond}
use Rattle.lg_plain.proofs.StatusLemmas.{rest-set_alone}

-- a change keeps the id and the number of a task
pub record KeepsPlace (change : Task → Task) : Type 0 where
  pub id : (task : Task) → (change task).id ≡ task.id
  pub number : (task : Task) → (change task).number ≡ task.number

pub place-set_alone : (delay : ℕ) (now : Moment) (status : Status) → KeepsPlace (set_alone delay now status)
place-set_alone delay now status = record {
  id = λ task. ap (λ (t : Task). t.id) (rest-set_alone delay now status task);
  number = λ task. ap (λ (t : Task). t.number) (rest-set_alone delay now status task);
}

pub place-begun : (ask : AddTask) (now : Moment) → KeepsPlace (run_begun ask now)
place-begun ask now = record {
  id = λ task. field-cond (λ (t : Task). t.id) (is_status Running task.status) (run_by ask.worker now ask.batch_id task) task refl;
  number = λ task. field-cond (λ (t : Task). t.number) (is_status Running task.status) (run_by ask.worker now ask.batch_id task) task refl;
}

-- neither has to do with those who want a task
pub stakeholders-set_alone : (delay : ℕ) (now : Moment) (status : Status) (task : Task) → (set_alone delay now status task).stakeholders ≡ task.stakeholders
stakeholders-set_alone delay now status task = ap (λ (t : Task). t.stakeholders) (rest-set_alone delay now status task)

pub stakeholders-begun : (ask : AddTask) (now : Moment) (task : Task) → (run_begun ask now task).stakeholders ≡ task.stakeholders
stakeholders-begun ask now task =
    field-cond (λ (t : Task). t.stakeholders) (is_status Running task.status) (run_by ask.worker now ask.batch_id task) task refl
