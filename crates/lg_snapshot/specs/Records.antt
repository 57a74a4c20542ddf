-- What stands in a snapshot for a record: an object of its fields, in the order of the bytes of their names. This project's
-- own.
use Rattle.std.specs.Prelude.{ℕ, List, [], ◌∷◌, codes, flat_map}
use Rattle.lg_calls.specs.declared.batcher.BatcherRec.{BatcherRec}
use Rattle.lg_calls.specs.declared.state.State.{State}
use Rattle.lg_calls.specs.declared.worker.WorkerRec.{WorkerRec}
use Rattle.lg_calls.specs.Task.{Task}
use Rattle.lg_json.specs.Text.{member_text}
use Rattle.lg_json.specs.Tree.{Tree, truth, int, str, object, members_of}
use Rattle.lg_retry.specs.declared.policy.Policy.{Policy}
use Rattle.lg_retry.specs.Failures.{History}
use Rattle.lg_snapshot.specs.Trees.{number, moment, status, maybe, listed, by_name, amounts, info}

-- fields, each with its name
abbrev pub Fields : Type 0
Fields = List (List ℕ × Tree)

-- an object of fields
abbrev pub record_of : Fields → Tree
record_of fields = object (members_of fields)

-- the text of fields behind others: a comma before each
abbrev pub more_text : Fields → List ℕ
more_text fields = flat_map (λ field. 44 ∷ member_text field.0 field.1) fields

-- how many failures a task is allowed
abbrev pub policy_fields : Policy → Fields
policy_fields policy =
    (codes "disable_hard_timeout", number policy.disable_hard_timeout) ∷
    (codes "disable_window", number policy.disable_window) ∷
    (codes "retry_count", number policy.retry_count) ∷ []

abbrev pub tree_of_policy : Policy → Tree
tree_of_policy policy = record_of (policy_fields policy)

-- what is remembered of a task's failures
abbrev pub failure_fields : History → Fields
failure_fields history =
    (codes "first", maybe moment history.first) ∷
    (codes "moments", listed moment history.moments) ∷ []

abbrev pub tree_of_failures : History → Tree
tree_of_failures history = record_of (failure_fields history)

-- a task
abbrev pub task_fields : Task → Fields
task_fields task =
    (codes "accepts_messages", truth task.accepts_messages) ∷
    (codes "added", moment task.added) ∷
    (codes "batch", maybe str task.batch) ∷
    (codes "batchable", truth task.batchable) ∷
    (codes "deps", listed str task.deps) ∷
    (codes "disabled_at", maybe moment task.disabled_at) ∷
    (codes "expl", maybe str task.expl) ∷
    (codes "failures", tree_of_failures task.failures) ∷
    (codes "family", str task.family) ∷
    (codes "id", str task.id) ∷
    (codes "module", maybe str task.«module») ∷
    (codes "number", number task.number) ∷
    (codes "params", by_name str task.params) ∷
    (codes "policy", tree_of_policy task.policy) ∷
    (codes "priority", int task.priority) ∷
    (codes "progress", maybe int task.progress) ∷
    (codes "remove", maybe moment task.remove) ∷
    (codes "resources", amounts task.resources) ∷
    (codes "retry", maybe moment task.retry) ∷
    (codes "runnable", truth task.runnable) ∷
    (codes "stakeholders", listed str task.stakeholders) ∷
    (codes "status", status task.status) ∷
    (codes "status_message", maybe str task.status_message) ∷
    (codes "time_running", maybe moment task.time_running) ∷
    (codes "tracking_url", maybe str task.tracking_url) ∷
    (codes "updated", moment task.updated) ∷
    (codes "worker_running", maybe str task.worker_running) ∷
    (codes "workers", listed str task.workers) ∷ []

abbrev pub tree_of_task : Task → Tree
tree_of_task task = record_of (task_fields task)

-- a worker
abbrev pub worker_fields : WorkerRec → Fields
worker_fields worker =
    (codes "disabled", truth worker.disabled) ∷
    (codes "id", str worker.id) ∷
    (codes "info", by_name info worker.info) ∷
    (codes "last_active", moment worker.last_active) ∷
    (codes "last_get_work", maybe moment worker.last_get_work) ∷
    (codes "started", moment worker.started) ∷ []

abbrev pub tree_of_worker : WorkerRec → Tree
tree_of_worker worker = record_of (worker_fields worker)

-- how a worker runs tasks in batches
abbrev pub batcher_fields : BatcherRec → Fields
batcher_fields batcher =
    (codes "family", str batcher.family) ∷
    (codes "names", listed str batcher.names) ∷
    (codes "size", maybe number batcher.size) ∷
    (codes "worker", str batcher.worker) ∷ []

abbrev pub tree_of_batcher : BatcherRec → Tree
tree_of_batcher batcher = record_of (batcher_fields batcher)

-- a state, without its settings and the moment of the last pruning
abbrev pub state_fields : State → Fields
state_fields state =
    (codes "batchers", listed tree_of_batcher state.batchers) ∷
    (codes "limits", amounts state.limits) ∷
    (codes "moment", moment state.moment) ∷
    (codes "next", number state.next) ∷
    (codes "paused", truth state.paused) ∷
    (codes "tasks", listed tree_of_task state.tasks) ∷
    (codes "version", number 1) ∷
    (codes "workers", listed tree_of_worker state.workers) ∷ []

abbrev pub tree_of_state : State → Tree
tree_of_state state = record_of (state_fields state)
