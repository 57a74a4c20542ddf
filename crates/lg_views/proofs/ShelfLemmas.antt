-- The tasks at the places: each stands at one, and an id is that of one place.
use Rattle.std.proofs.Common.{Ordering, Less, Equal, Greater, ◌≡◌, ℕ, zero, suc, ◌<◌, Bool, true, false, not, cond, List, [], ◌∷◌, Option, Some, None, length, get_or, refl, sym, ap, ◌∙◌}
use Rattle.std.specs.Cmp.Lexicographic.{slice_cmp}
use Rattle.std.specs.FinMap.{nat_cmp-IsAntisymmetric, slice_cmp-IsAntisymmetric}
use Rattle.std.specs.List.{AllByRecursion, list_all, position, slice_get}
use Rattle.std.specs.Option.{option_flatten}
use Rattle.std.specs.Ordering.{nat_cmp, is_eq}
use Rattle.std.proofs.lemmas.Bool.{false≢true}
use Rattle.std.proofs.lemmas.List.Quantifiers.{position-Some}
use Rattle.std.proofs.lemmas.Option.{none-some, same_Some, slice_get-get_or}
use Rattle.lg_calls.specs.Look.{tasks_at, task_at, holds_id, place_of}
use Rattle.lg_calls.specs.Order.{is_same}
use Rattle.lg_calls.specs.Task.{Task}
use Rattle.lg_calls.specs.Tasks.{ids_of, have_distinct_ids, has_id, find_task}
use Rattle.lg_views.proofs.TestLemmas.{and-first, and-second}

equal : (o : Ordering) → is_eq o ≡ true → o ≡ Equal
equal Less e = cc
equal Equal e = refl
equal Greater e = cc

same-is : (one other : List ℕ) → is_same one other ≡ true → one ≡ other
same-is one other e = slice_cmp-IsAntisymmetric nat_cmp-IsAntisymmetric one other (equal (slice_cmp nat_cmp one other) e)

-- ---- a place and its task

-- a task stands at a place
abbrev pub Stands : List (Option Task) → Task → Type 0
Stands shelf task = (place : ℕ) × (task_at shelf place ≡ Some task)

later : (here : Option Task) (shelf : List (Option Task)) (task : Task) → Stands shelf task → Stands (here ∷ shelf) task
later here shelf task at = (suc at.0, at.1)

all_later : (here : Option Task) (shelf : List (Option Task)) (tasks : List Task) → AllByRecursion (Stands shelf) tasks → AllByRecursion (Stands (here ∷ shelf)) tasks
all_later here shelf [] all = tt
all_later here shelf (task ∷ tasks) all = (later here shelf task all.0, all_later here shelf tasks all.1)

-- each task stands at a place
pub all_stand : (shelf : List (Option Task)) → AllByRecursion (Stands shelf) (tasks_at shelf)
all_stand [] = tt
all_stand (None ∷ shelf) = all_later None shelf (tasks_at shelf) (all_stand shelf)
all_stand (Some task ∷ shelf) = ((zero, refl), all_later (Some task) shelf (tasks_at shelf) (all_stand shelf))

-- what stands at a place is one of the tasks
pub stands-known : (shelf : List (Option Task)) (place : ℕ) (task : Task) → task_at shelf place ≡ Some task → (k : ℕ) × (slice_get (tasks_at shelf) k ≡ Some task)
stands-known [] place task at = absurd (none-some task at)
stands-known (None ∷ shelf) zero task at = absurd (none-some task at)
stands-known (None ∷ shelf) (suc place) task at = stands-known shelf place task at
stands-known (Some first ∷ shelf) zero task at = (zero, at)
stands-known (Some first ∷ shelf) (suc place) task at = let known = stands-known shelf place task at in (suc known.0, known.1)

-- ---- the task of an id

all-at : (test : List ℕ → Bool) (shelf : List (Option Task)) (k : ℕ) (task : Task) → list_all test (ids_of (tasks_at shelf)) ≡ true → task_at shelf k ≡ Some task → test task.id ≡ true
all-at test [] k task all at = absurd (none-some task at)
all-at test (None ∷ shelf) zero task all at = absurd (none-some task at)
all-at test (None ∷ shelf) (suc k) task all at = all-at test shelf k task all at
all-at test (Some m ∷ shelf) zero task all at = ap (λ (t : Task). test t.id) (sym (same_Some m task at)) ∙ and-first _ _ all
all-at test (Some m ∷ shelf) (suc k) task all at = all-at test shelf k task (and-second (test m.id) _ all) at

not-false : (b : Bool) → not b ≡ true → b ≡ true → ⊥
not-false true h k = false≢true h
not-false false h k = false≢true k

-- an id that the first task has isn't that of a later one
apart-first : (id : List ℕ) (m : Task) (shelf : List (Option Task)) (k : ℕ) (task : Task) → list_all (λ other. not (is_same m.id other)) (ids_of (tasks_at shelf)) ≡ true
    → task_at shelf k ≡ Some task → has_id id m ≡ true → has_id id task ≡ true → ⊥
apart-first id m shelf k task all at one other =
    not-false (is_same m.id task.id) (all-at (λ t. not (is_same m.id t)) shelf k task all at)
    (ap (λ i. is_same i task.id) (sym (same-is id m.id one)) ∙ other)

-- an id is that of one place
pub alone : (id : List ℕ) (shelf : List (Option Task)) (i k : ℕ) (one other : Task) → have_distinct_ids (tasks_at shelf) ≡ true
    → task_at shelf i ≡ Some one → task_at shelf k ≡ Some other → has_id id one ≡ true → has_id id other ≡ true → k ≡ i
alone id [] i k one other distinct at here has too = absurd (none-some one at)
alone id (None ∷ shelf) zero k one other distinct at here has too = absurd (none-some one at)
alone id (None ∷ shelf) (suc i) zero one other distinct at here has too = absurd (none-some other here)
alone id (None ∷ shelf) (suc i) (suc k) one other distinct at here has too = ap suc (alone id shelf i k one other distinct at here has too)
alone id (Some m ∷ shelf) zero zero one other distinct at here has too = refl
alone id (Some m ∷ shelf) zero (suc k) one other distinct at here has too =
    absurd (apart-first id m shelf k other (and-first _ _ distinct) here (ap (has_id id) (same_Some m one at) ∙ has) too)
alone id (Some m ∷ shelf) (suc i) zero one other distinct at here has too =
    absurd (apart-first id m shelf i one (and-first _ _ distinct) at (ap (has_id id) (same_Some m other here) ∙ too) has)
alone id (Some m ∷ shelf) (suc i) (suc k) one other distinct at here has too =
    ap suc (alone id shelf i k one other (and-second (list_all (λ t. not (is_same m.id t)) (ids_of (tasks_at shelf))) _ distinct) at here has too)

-- ---- the place of an id

-- a task of the id stands at the place
pub record IsPlaceOf (id : List ℕ) (shelf : List (Option Task)) (place : ℕ) : Type 0 where
  pub inside : place < length shelf
  pub task : Task
  pub at : task_at shelf place ≡ Some task
  pub has : has_id id task ≡ true

holds-task : (id : List ℕ) (shelf : List (Option Task)) (place : ℕ) → place < length shelf → (there : Option Task) → get_or shelf place None ≡ there → holds_id id there ≡ true
    → IsPlaceOf id shelf place
holds-task id shelf place inside None is holds = absurd (false≢true holds)
holds-task id shelf place inside (Some task) is holds = record {
  inside = inside;
  task = task;
  at = ap option_flatten (slice_get-get_or shelf place None inside ∙ ap Some is);
  has = holds;
}

pub place-is : (id : List ℕ) (shelf : List (Option Task)) (place : ℕ) → place_of id shelf ≡ Some place → IsPlaceOf id shelf place
place-is id shelf place found =
    let is = position-Some (holds_id id) shelf place None found in holds-task id shelf place is.0 (get_or shelf place None) refl is.1

first-not : (b : Bool) (m : Task) (rest : Option Task) → cond b (Some m) rest ≡ None → (b ≡ false) × (rest ≡ None)
first-not true m rest e = absurd (none-some m (sym e))
first-not false m rest e = (refl, e)

-- where no task has the id, none that stands at a place has it
pub nobody : (id : List ℕ) (shelf : List (Option Task)) (k : ℕ) (task : Task) → find_task id (tasks_at shelf) ≡ None → task_at shelf k ≡ Some task → has_id id task ≡ false
nobody id [] k task e at = absurd (none-some task at)
nobody id (None ∷ shelf) zero task e at = absurd (none-some task at)
nobody id (None ∷ shelf) (suc k) task e at = nobody id shelf k task e at
nobody id (Some m ∷ shelf) zero task e at = ap (has_id id) (sym (same_Some m task at)) ∙ (first-not _ m _ e).0
nobody id (Some m ∷ shelf) (suc k) task e at = nobody id shelf k task (first-not _ m _ e).1 at
