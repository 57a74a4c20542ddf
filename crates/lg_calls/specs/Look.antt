-- Looking at a state whose tasks stand at places, some of which may be free. This project's own.
use Rattle.std.specs.Prelude.{◌≡◌, refl, ℕ, ◌^◌, ◌<◌, Bool, false, IsTrue, Option, Some, None, List, [], ◌∷◌, map, length, position, slice_get}
use Rattle.std.specs.List.{filter_map}
use Rattle.std.specs.Option.{option_flatten}
use Rattle.lg_calls.specs.declared.state.State.{State}
use Rattle.lg_calls.specs.Task.{Task}
use Rattle.lg_calls.specs.Tasks.{have_distinct_ids, has_id}

-- a state that can be looked at: its tasks can be counted in 32 bits and told apart by their ids
pub record CanBeLookedAt (s : State) : Type 0 where
  pub few_tasks : length s.tasks < 2 ^ 32
  pub ids_differ : IsTrue (have_distinct_ids s.tasks)

-- the tasks at the places, in order
abbrev pub tasks_at : List (Option Task) → List Task
tasks_at places = filter_map (λ there. there) places

-- the task at a place: none where the place is free, and none behind the last place
abbrev pub task_at : List (Option Task) → ℕ → Option Task
task_at places place = option_flatten (slice_get places place)

-- the task of this id is there
abbrev pub holds_id : List ℕ → Option Task → Bool
holds_id id None = false
holds_id id (Some task) = has_id id task

-- the place of the task of this id, if there is one
abbrev pub place_of : List ℕ → List (Option Task) → Option ℕ
place_of id places = position (holds_id id) places

-- places that are all taken hold the tasks that stand there
pub tasks_at-all : (tasks : List Task) → tasks_at (map Some tasks) ≡ tasks
tasks_at-all [] = refl
tasks_at-all (task ∷ tasks) = λ i. task ∷ tasks_at-all tasks i
