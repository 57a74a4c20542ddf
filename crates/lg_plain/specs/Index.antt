-- An index of tasks by their ids. This project's own.
use Rattle.std.specs.Prelude.{◌≡◌, ℕ, ◌<◌, ◌≤◌, List, [], length, slice_get, Option, Some, None, All, vec_capacity}
use Rattle.std.specs.Cmp.Lexicographic.{slice_cmp}
use Rattle.std.specs.List.{Contains}
use Rattle.std.specs.List.Sorted.{IsSortedBy}
use Rattle.std.specs.Ordering.{nat_cmp, is_lt}
use Rattle.lg_plain.specs.declared.index.Index.{Index}
use Rattle.lg_calls.specs.Task.{Task}

-- the id of a task, if there is one
abbrev pub id_of : Option Task → List ℕ
id_of None = []
id_of (Some task) = task.id

-- the id of the task of a place
abbrev pub id_at : List Task → ℕ → List ℕ
id_at tasks place = id_of (slice_get tasks place)

-- there is room for an index of so many tasks
pub record HasRoom (count : ℕ) (index : Index) : Type 0 where
  pub empty : index.places.items ≡ []
  pub room : count ≤ vec_capacity index.places

-- each place of so many tasks is there, and no other
pub record HasEach (count : ℕ) (places : List ℕ) : Type 0 where
  pub each : (place : ℕ) → place < count → Contains places place
  pub inside : All (λ place. place < count) places

-- each place of a task is there, and no other, in the order of their ids
pub record IsIndexOf (tasks : List Task) (index : Index) : Type 0 where
  pub has : HasEach (length tasks) index.places.items
  pub in_order : IsSortedBy (λ one other. is_lt (slice_cmp nat_cmp (id_at tasks one) (id_at tasks other))) index.places.items
