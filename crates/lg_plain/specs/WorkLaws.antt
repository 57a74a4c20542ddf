-- What a worker gets that asks for work, for those who follow a task or a resource through a step. This project's own.
use Rattle.std.specs.Prelude.{◌≡◌, ◌≢◌, ℕ, ◌≤◌, if◌then◌else◌, codes, Option, Some, None, IsSomeAnd, IsTrue, List, Contains}
use Rattle.lg_base.specs.Amounts.{Fits, limit_of}
use Rattle.lg_json.specs.Tree.{Tree, Members, null, str, object, no_members, member}
use Rattle.lg_calls.specs.declared.methods.get_work.GetWork.{GetWork}
use Rattle.lg_calls.specs.declared.request.Request.TheVariants as R
use Rattle.lg_calls.specs.declared.state.State.{State}
use Rattle.lg_calls.specs.declared.status.Status.TheVariants.{Running, Done}
use Rattle.lg_calls.specs.Methods.GetWork.{assistant_marked, heard_asking}
use Rattle.lg_calls.specs.Order.{is_same}
use Rattle.lg_calls.specs.Outcome.{Outcome, replied}
use Rattle.lg_calls.specs.Step.{begun, step}
use Rattle.lg_calls.specs.Task.{Task}
use Rattle.lg_calls.specs.Tasks.{find_task}
use Rattle.lg_calls.specs.Use.{used}
use Rattle.lg_calls.specs.Work.Again.{was_lost}

-- ---- the states of a step

-- a step in which a worker asks for work: the state behind it, and its outcome
abbrev pub asked : State → ℕ → GetWork → State × Outcome
asked s now ask = step s now (R.GetWork ask)

-- the state in which the worker was just heard of, at the moment of the step
abbrev pub heard : State → ℕ → GetWork → State
heard s now ask = heard_asking ask (begun s now (R.GetWork ask))

-- the state that the search for work sees: the worker is marked, too, where it asks as an assistant
abbrev pub seen : State → ℕ → GetWork → State
seen s now ask = assistant_marked ask (heard s now ask)

-- ---- a task

-- a task begins to run by the step: the search saw it, not RUNNING, and behind the step it is RUNNING
pub record BeginsToRun (s : State) (now : ℕ) (ask : GetWork) (task : Task) : Type 0 where
  pub known : find_task task.id (seen s now ask).tasks ≡ Some task
  pub waited : task.status ≢ Running
  pub runs : IsSomeAnd (find_task task.id (asked s now ask).0.tasks) (λ after. after.status ≡ Running)

-- the task of each id is known, and DONE
abbrev pub AreDone : List Task → List (List ℕ) → Type 0
AreDone tasks ids = (id : List ℕ) → Contains ids id → IsSomeAnd (find_task id tasks) (λ task. task.status ≡ Done)

-- a worker lost a task: it runs the task, and tells what it runs without naming it
pub record LostBy (ask : GetWork) (s : State) (task : Task) : Type 0 where
  pub stands : Contains s.tasks task
  pub known : List (List ℕ)
  pub told : ask.current_tasks ≡ Some known
  pub lost : IsTrue (was_lost ask.worker known task)

-- a task fits in a state: of each resource that it needs, what all RUNNING tasks take and what it needs are together within
-- the limit
abbrev pub FitsIn : State → Task → Type 0
FitsIn s task = Fits task.resources (used s) s.limits

-- ---- a resource

-- what all RUNNING tasks take of a resource is within its limit
abbrev pub IsWithinLimit : State → List ℕ → Type 0
IsWithinLimit s name = used s name ≤ limit_of s.limits name

-- ---- the reply

-- the first member of a name
abbrev pub member_named : List ℕ → Members → Option Tree
member_named name no_members = None
member_named name (member other value members) = if is_same name other then Some value else member_named name members

abbrev pub field_named : List ℕ → Tree → Option Tree
field_named name (object members) = member_named name members
field_named name _ = None

-- what a reply says is given: the id of a task, or null
abbrev pub told : Outcome → Option Tree
told (replied reply) = field_named (codes "task_id") reply
told _ = None

-- a reply gives the task of this id
abbrev pub Gives : List ℕ → Outcome → Type 0
Gives id outcome = told outcome ≡ Some (str id)

-- a reply gives no work
abbrev pub GivesNothing : Outcome → Type 0
GivesNothing outcome = told outcome ≡ Some null
