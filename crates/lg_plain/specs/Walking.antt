-- A walk along dependencies: what is marked, and which places are still to be looked at. This project's own.
use Rattle.std.specs.Prelude.{◌≡◌, ℕ, ℤ, ◌+◌, ◌<◌, Bool, true, false, not, ◌⊎◌, List, [], length, count_by, slice_get, slice_index_or, Option, Some, None, MatchOption}
use Rattle.std.specs.List.{Contains}
use Rattle.lg_plain.specs.declared.walk.Walk.{Walk}
use Rattle.lg_calls.specs.Raising.{leads_from}
use Rattle.lg_calls.specs.Task.{Task}
use Rattle.lg_calls.specs.Tasks.{find_task}

-- a place is marked
abbrev pub is_marked : Walk → ℕ → Bool
is_marked walk place = slice_index_or walk.marks.items place false

-- a place is still to be looked at
abbrev pub IsAhead : Walk → ℕ → Type 0
IsAhead walk place = Contains walk.places.items place

-- what is left of a walk: the places that aren't marked, and those that are still to be looked at
abbrev pub rest_of : Walk → ℕ
rest_of walk = count_by not walk.marks.items + length walk.places.items

-- a walk that hasn't begun, over so many tasks
pub record IsFresh (size : ℕ) (walk : Walk) : Type 0 where
  pub count : length walk.marks.items ≡ size
  pub unmarked : (place : ℕ) → is_marked walk place ≡ false
  pub nothing_ahead : walk.places.items ≡ []

-- those tasks are marked that pass the test
abbrev pub IsMarkedBy : List Task → (Task → Bool) → Walk → Type 0
IsMarkedBy tasks test walk = (place : ℕ) (task : Task) → slice_get tasks place ≡ Some task → is_marked walk place ≡ test task

-- each task that passes the test is marked, and nothing else; what is marked anew is still to be looked at
pub record Marks (tasks : List Task) (test : Task → Bool) (before after : Walk) : Type 0 where
  pub marked : (place : ℕ) (task : Task) → slice_get tasks place ≡ Some task → test task ≡ true → is_marked after place ≡ true
  pub by_test : (place : ℕ) → is_marked after place ≡ true
      → (is_marked before place ≡ true) ⊎ ((task : Task) × (slice_get tasks place ≡ Some task) × (test task ≡ true))
  pub kept : (place : ℕ) → is_marked before place ≡ true → is_marked after place ≡ true
  pub ahead : (place : ℕ) → is_marked after place ≡ true → (is_marked before place ≡ true) ⊎ IsAhead after place
  pub ahead_kept : (place : ℕ) → IsAhead before place → IsAhead after place
  pub ahead_marked : (place : ℕ) → IsAhead after place → IsAhead before place ⊎ (is_marked after place ≡ true)
  pub count : length after.marks.items ≡ length before.marks.items
  pub rest : rest_of after ≡ rest_of before

-- what the task of a place leads to
abbrev pub leads_at : ℤ → List Task → ℕ → Task → Bool
leads_at priority tasks place to = leads_from priority tasks (slice_get tasks place) to

-- the place of the task of an id
abbrev pub IsPlaceOf : List ℕ → List Task → Option ℕ → Type 0
IsPlaceOf id tasks result =
    MatchOption result (find_task id tasks ≡ None) (λ place. (find_task id tasks ≡ slice_get tasks place) × (place < length tasks))
