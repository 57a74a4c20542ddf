-- What the scheduler knows of a task. This project's own, after Luigi's central scheduler.
use Rattle.std.specs.Prelude.{ℕ, ℤ, Bool, List, Option}
use Rattle.lg_base.specs.declared.moment.Moment.{Moment}
use Rattle.lg_base.specs.Amounts.{AmountsByName}
use Rattle.lg_retry.specs.declared.policy.Policy.{Policy}
use Rattle.lg_retry.specs.Failures.{History}
use Rattle.lg_calls.specs.declared.status.Status.{Status}

-- a task: an id, a name and a text are the list of their bytes
pub record Task : Type 0 where
  pub id : List ℕ
  pub number : ℕ
  pub family : List ℕ
  pub «module» : Option (List ℕ)
  pub params : List (List ℕ × List ℕ)
  pub status : Status
  pub deps : List (List ℕ)
  pub workers : List (List ℕ)
  pub stakeholders : List (List ℕ)
  pub priority : ℤ
  pub resources : AmountsByName
  pub added : Moment
  pub updated : Moment
  pub runnable : Bool
  pub batchable : Bool
  pub accepts_messages : Bool
  pub worker_running : Option (List ℕ)
  pub time_running : Option Moment
  pub batch : Option (List ℕ)
  pub failures : History
  pub policy : Policy
  pub retry : Option Moment
  pub disabled_at : Option Moment
  pub remove : Option Moment
  pub expl : Option (List ℕ)
  pub tracking_url : Option (List ℕ)
  pub status_message : Option (List ℕ)
  pub progress : Option ℤ
