-- The tasks whose id has a text in it. This project's own, after Luigi's central scheduler.
use Rattle.std.specs.Prelude.{ℕ, ◌==◌, Bool, true, false, ◌&&◌, ◌||◌, List, [], ◌∷◌, filter, flat_map}
use Rattle.lg_calls.specs.declared.state.State.{State}
use Rattle.lg_calls.specs.declared.status.Status.{Status}
use Rattle.lg_calls.specs.Task.{Task}
use Rattle.lg_calls.specs.Words.{status_word}
use Rattle.lg_json.specs.Tree.{Tree}
use Rattle.lg_calls.specs.Views.Counts.{in_order}
use Rattle.lg_calls.specs.Views.Records.{records}
use Rattle.lg_calls.specs.Views.Trees.{Fields, record_of}
use Rattle.lg_calls.specs.Use.{with_status}

-- a text begins with a part
abbrev pub begins_with : List ℕ → List ℕ → Bool
begins_with [] text = true
begins_with (c ∷ part) [] = false
begins_with (c ∷ part) (d ∷ text) = (c == d) && begins_with part text

-- a text has a part in it
abbrev pub has_part : List ℕ → List ℕ → Bool
has_part part [] = begins_with part []
has_part part (c ∷ text) = begins_with part (c ∷ text) || has_part part text

-- the records of tasks under the word of their status, where there are some
abbrev pub group_of : Status → List Task → Fields
group_of status [] = []
group_of status (task ∷ tasks) = (status_word status, records (task ∷ tasks)) ∷ []

-- the tasks of a status among others
abbrev pub group : List Task → Status → Fields
group tasks status = group_of status (with_status status tasks)

-- by the words of their statuses, the tasks whose id has the part in it
unfoldable pub task_search : State → List ℕ → Tree
task_search state part = record_of (flat_map (group (filter (λ task. has_part part task.id) state.tasks)) in_order)
