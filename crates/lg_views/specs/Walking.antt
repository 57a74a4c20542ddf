-- A walk from task to task: what is marked, and which places are still to be looked at. This project's own.
use Rattle.std.specs.Prelude.{◌≡◌, ℕ, ◌+◌, Bool, true, false, not, ◌⊎◌, List, [], length, count_by, slice_index_or, Option, Some}
use Rattle.std.specs.List.{Contains, list_any}
use Rattle.lg_calls.specs.Look.{task_at}
use Rattle.lg_calls.specs.Task.{Task}
use Rattle.lg_calls.specs.Tasks.{has_id}
use Rattle.lg_views.specs.declared.walk.Walk.{Walk}

-- a place is marked
abbrev pub is_marked : Walk → ℕ → Bool
is_marked walk place = slice_index_or walk.marks.items place false

-- a place is still to be looked at
abbrev pub IsAhead : Walk → ℕ → Type 0
IsAhead walk place = Contains walk.places.items place

-- what is left of a walk: the places that aren't marked, and those that are still to be looked at
abbrev pub rest_of : Walk → ℕ
rest_of walk = count_by not walk.marks.items + length walk.places.items

-- a walk that hasn't begun, over so many places
pub record IsFresh (size : ℕ) (walk : Walk) : Type 0 where
  pub count : length walk.marks.items ≡ size
  pub unmarked : (place : ℕ) → is_marked walk place ≡ false
  pub nothing_ahead : walk.places.items ≡ []

-- those places are marked whose task passes the test
pub record IsMarkedBy (shelf : List (Option Task)) (test : Task → Bool) (walk : Walk) : Type 0 where
  pub count : length walk.marks.items ≡ length shelf
  pub marks : (place : ℕ) (task : Task) → task_at shelf place ≡ Some task → is_marked walk place ≡ test task

-- each task that passes the test is marked, and nothing else; what is marked anew is still to be looked at
pub record Marks (shelf : List (Option Task)) (test : Task → Bool) (before after : Walk) : Type 0 where
  pub marked : (place : ℕ) (task : Task) → task_at shelf place ≡ Some task → test task ≡ true → is_marked after place ≡ true
  pub by_test : (place : ℕ) → is_marked after place ≡ true
      → (is_marked before place ≡ true) ⊎ ((task : Task) × (task_at shelf place ≡ Some task) × (test task ≡ true))
  pub kept : (place : ℕ) → is_marked before place ≡ true → is_marked after place ≡ true
  pub ahead : (place : ℕ) → is_marked after place ≡ true → (is_marked before place ≡ true) ⊎ IsAhead after place
  pub ahead_kept : (place : ℕ) → IsAhead before place → IsAhead after place
  pub ahead_marked : (place : ℕ) → IsAhead after place → IsAhead before place ⊎ (is_marked after place ≡ true)
  pub count : length after.marks.items ≡ length before.marks.items
  pub rest : rest_of after ≡ rest_of before

-- a task has one of these ids
abbrev pub has_one_of : List (List ℕ) → Task → Bool
has_one_of ids task = list_any (λ id. has_id id task) ids
