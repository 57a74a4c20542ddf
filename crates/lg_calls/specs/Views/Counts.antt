-- How many tasks each status has. This project's own, after Luigi's central scheduler.
use Rattle.std.specs.Prelude.{ℕ, List, [], ◌∷◌, count_by, map}
use Rattle.lg_calls.specs.declared.state.State.{State}
use Rattle.lg_calls.specs.declared.status.Status.{Status}
use Rattle.lg_calls.specs.declared.status.Status.TheVariants.{Pending, Running, BatchRunning, Done, Failed, Disabled, Unknown}
use Rattle.lg_calls.specs.Status.{is_status}
use Rattle.lg_calls.specs.Task.{Task}
use Rattle.lg_calls.specs.Words.{status_word}
use Rattle.lg_json.specs.Tree.{Tree}
use Rattle.lg_calls.specs.Views.Trees.{record_of, number}

-- how many of the tasks have the status
abbrev pub count_of : Status → List Task → ℕ
count_of status tasks = count_by (λ task. is_status status task.status) tasks

-- the statuses, in the order of their words
abbrev pub in_order : List Status
in_order = BatchRunning ∷ Disabled ∷ Done ∷ Failed ∷ Pending ∷ Running ∷ Unknown ∷ []

-- each status by its word, with the number of its tasks
unfoldable pub status_counts : State → Tree
status_counts state = record_of (map (λ status. (status_word status, number (count_of status state.tasks))) in_order)
