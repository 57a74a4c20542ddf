-- What the words on the list of tasks come to. This project's own.
use Rattle.std.specs.Prelude.{◌≡◌, ◌≢◌, ℕ, ◌<◌, Bool, IsTrue, if◌then◌else◌, Option, Some, None, List, All}
use Rattle.std.specs.Option.{option_map, option_and_then}
use Rattle.lg_calls.specs.Task.{Task}
use Rattle.lg_calls.specs.Tasks.{have_distinct_ids, have_rising_numbers, find_task, change_meant, change_task, append_task, keep_tasks}

-- a change keeps the id of each task, and its number
abbrev pub KeepsIds : (Task → Task) → Type 0
KeepsIds change = (task : Task) → (change task).id ≡ task.id

abbrev pub KeepsNumbers : (Task → Task) → Type 0
KeepsNumbers change = (task : Task) → (change task).number ≡ task.number

-- the task of an id is found changed, and each other task as it was
pub record ChangesOne (id : List ℕ) (change : Task → Task) (tasks : List Task) : Type 0 where
  pub itself : find_task id (change_task id change tasks) ≡ option_map change (find_task id tasks)
  pub others : (other : List ℕ) → other ≢ id → find_task other (change_task id change tasks) ≡ find_task other tasks

-- a task behind the others is found by its id, where the id is new, and each other task as it was
pub record AddsOne (task : Task) (tasks : List Task) : Type 0 where
  pub itself : find_task task.id tasks ≡ None → find_task task.id (append_task tasks task) ≡ Some task
  pub others : (other : List ℕ) → other ≢ task.id → find_task other (append_task tasks task) ≡ find_task other tasks

-- the task that is found is still found where it stays, and none where it doesn't
abbrev pub found_where_kept : (Task → Bool) → Option Task → Option Task
found_where_kept stays found = option_and_then (λ task. if stays task then Some task else None) found

-- ids that differ still differ: behind a change that keeps them, behind a task of a new id, and where tasks go
pub record IdsStayDistinct (tasks : List Task) : Type 0 where
  pub changed : (is_meant : Task → Bool) (change : Task → Task) → KeepsIds change → IsTrue (have_distinct_ids (change_meant is_meant change tasks))
  pub added : (task : Task) → find_task task.id tasks ≡ None → IsTrue (have_distinct_ids (append_task tasks task))
  pub kept : (stays : Task → Bool) → IsTrue (have_distinct_ids (keep_tasks stays tasks))

-- numbers that rise still rise: behind a change that keeps them, behind a task of a greater number, and where tasks go
pub record NumbersKeepRising (tasks : List Task) : Type 0 where
  pub changed : (is_meant : Task → Bool) (change : Task → Task) → KeepsNumbers change → IsTrue (have_rising_numbers (change_meant is_meant change tasks))
  pub added : (task : Task) → All (λ other. other.number < task.number) tasks → IsTrue (have_rising_numbers (append_task tasks task))
  pub kept : (stays : Task → Bool) → IsTrue (have_rising_numbers (keep_tasks stays tasks))
