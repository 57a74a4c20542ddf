-- A task is given again to the worker that runs it, where the reply that gave it was lost. This project's own, after Luigi's
-- central scheduler.
use Rattle.std.specs.Prelude.{ℕ, Bool, not, ◌&&◌, Option, List, find, option_and_then}
use Rattle.std.specs.List.{list_any}
use Rattle.lg_calls.specs.declared.methods.get_work.GetWork.{GetWork}
use Rattle.lg_calls.specs.declared.state.State.{State}
use Rattle.lg_calls.specs.declared.status.Status.TheVariants.{Running}
use Rattle.lg_calls.specs.AddTask.Reporting.{runs_for}
use Rattle.lg_calls.specs.Status.{is_status}
use Rattle.lg_calls.specs.Task.{Task}
use Rattle.lg_calls.specs.Tasks.{has_id}
use Rattle.lg_calls.specs.Work.Rank.{by_rank}

-- a task was lost: the worker runs it, and doesn't know
abbrev pub was_lost : List ℕ → List (List ℕ) → Task → Bool
was_lost worker known task =
    is_status Running task.status && (runs_for worker task && not (list_any (λ id. has_id id task) known))

-- the first in rank of the tasks that a worker lost
abbrev pub first_lost : List ℕ → List Task → List (List ℕ) → Option Task
first_lost worker tasks known = find (was_lost worker known) (by_rank tasks)

-- the task that is given again: none where the worker doesn't tell what it runs
unfoldable pub given_again : GetWork → State → Option Task
given_again ask s = option_and_then (first_lost ask.worker s.tasks) ask.current_tasks
