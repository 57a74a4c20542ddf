-- How urgency goes on to what an urgent task waits for. This project's own, after Luigi's central scheduler.
use Rattle.std.specs.Prelude.{ℕ, ℤ, pos, int_lt, ◌<ℤ◌, ◌&&◌, ◌||◌, Bool, false, Option, Some, None, List, [], ◌∷◌}
use Rattle.std.specs.List.{Contains, list_any}
use Rattle.lg_calls.specs.Task.{Task}
use Rattle.lg_calls.specs.Tasks.{has_id, find_task, change_meant}

-- a priority goes on to a task that has one of these ids: its own is lower
abbrev pub goes_to : ℤ → List (List ℕ) → Task → Bool
goes_to priority ids task = list_any (λ id. has_id id task) ids && int_lt task.priority priority

-- a priority goes on from a task to another: that is a dependency of it, and its priority is lower
abbrev pub goes_on : ℤ → Task → Task → Bool
goes_on priority task other = goes_to priority task.deps other

-- A priority goes on from a task to another at once, or along a path through some of these tasks: with one task more there
-- are the paths without it, and those to it and on from it.
unfoldable pub leads : ℤ → List Task → Task → Task → Bool
leads priority [] from to = goes_on priority from to
leads priority (task ∷ tasks) from to =
    leads priority tasks from to || (leads priority tasks from task && leads priority tasks task to)

-- the same from a task, if there is one
abbrev pub leads_from : ℤ → List Task → Option Task → Task → Bool
leads_from priority tasks None to = false
leads_from priority tasks (Some from) to = leads priority tasks from to

-- a task is raised: the priority goes on to it from the task of an id
abbrev pub is_raised : ℤ → List ℕ → List Task → Task → Bool
is_raised priority id tasks task = leads_from priority tasks (find_task id tasks) task

-- a task with this priority
abbrev pub with_priority : ℤ → Task → Task
with_priority priority task = record task { priority = priority }

-- each task to which the priority goes on from the task of an id gets it, and the others stay
abbrev pub raised : ℤ → List ℕ → List Task → List Task
raised priority id tasks = change_meant (is_raised priority id tasks) (with_priority priority) tasks

-- ---- in the words of those who ask why a task is urgent

-- a task waits for another, whose priority is below this one
pub record WaitsForLower (priority : ℤ) (task other : Task) : Type 0 where
  pub dependency : Contains task.deps other.id
  pub lower : other.priority <ℤ priority

-- a path of dependencies leads from a task through these to another; each behind the first has a priority below this one
abbrev pub IsPath : ℤ → Task → List Task → Task → Type 0
IsPath priority from [] to = WaitsForLower priority from to
IsPath priority from (task ∷ tasks) to = WaitsForLower priority from task × IsPath priority task tasks to

-- all of a task but its priority
abbrev pub beside_priority : Task → Task
beside_priority task = with_priority (pos 0) task
