-- Why a task failed, as it is shown. This project's own, after Luigi's central scheduler.
use Rattle.std.specs.Prelude.{ℕ, List, [], ◌∷◌, Option, Some, None, codes, unwrap_or}
use Rattle.lg_calls.specs.declared.state.State.{State}
use Rattle.lg_calls.specs.Task.{Task}
use Rattle.lg_calls.specs.Tasks.{find_task}
use Rattle.lg_json.specs.Tree.{Tree, str}
use Rattle.lg_calls.specs.Views.DisplayName.{display_name}
use Rattle.lg_calls.specs.Views.Trees.{record_of, maybe, by_name}

-- of a task that is known: why it failed, the empty text if it didn't, and what it is
unfoldable pub known_error : List ℕ → Task → Tree
known_error id task = record_of (
    (codes "displayName", str (display_name task)) ∷
    (codes "error", str (unwrap_or task.expl [])) ∷
    (codes "taskFamily", str task.family) ∷
    (codes "taskId", str id) ∷
    (codes "taskModule", maybe str task.«module») ∷
    (codes "taskParams", by_name str task.params) ∷ [])

-- of an id that no task has
unfoldable pub unknown_error : List ℕ → Tree
unknown_error id = record_of ((codes "error", str []) ∷ (codes "taskId", str id) ∷ [])

-- of the task of an id, or where there is none
abbrev pub error_if : List ℕ → Option Task → Tree
error_if id (Some task) = known_error id task
error_if id None = unknown_error id

-- why the task of an id failed
abbrev pub error_record : State → List ℕ → Tree
error_record state id = error_if id (find_task id state.tasks)
