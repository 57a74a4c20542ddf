-- The list of tasks and how it changes: a task is found by its id, changed, put behind the others or taken out. This
-- project's own.
use Rattle.std.specs.Prelude.{ℕ, nat_lt, if◌then◌else◌, Bool, Option, List, [], ◌∷◌, ◌++◌, find, map, filter}
use Rattle.lg_calls.specs.Order.{is_same, all_pairs, are_distinct}
use Rattle.lg_calls.specs.Task.{Task}

-- the ids of tasks, and their numbers
abbrev pub ids_of : List Task → List (List ℕ)
ids_of tasks = map (λ task. task.id) tasks

abbrev pub numbers_of : List Task → List ℕ
numbers_of tasks = map (λ task. task.number) tasks

-- no id stands twice
abbrev pub have_distinct_ids : List Task → Bool
have_distinct_ids tasks = are_distinct (ids_of tasks)

-- the numbers rise along the list
abbrev pub have_rising_numbers : List Task → Bool
have_rising_numbers tasks = all_pairs nat_lt (numbers_of tasks)

-- the task has this id
abbrev pub has_id : List ℕ → Task → Bool
has_id id task = is_same id task.id

-- the task of this id, if there is one
abbrev pub find_task : List ℕ → List Task → Option Task
find_task id tasks = find (has_id id) tasks

-- each task that is meant is changed, and the others stay
abbrev pub change_meant : (Task → Bool) → (Task → Task) → List Task → List Task
change_meant is_meant change tasks = map (λ task. if is_meant task then change task else task) tasks

-- the task of this id is changed, and the others stay
abbrev pub change_task : List ℕ → (Task → Task) → List Task → List Task
change_task id change tasks = change_meant (has_id id) change tasks

-- a task more, behind the others
abbrev pub append_task : List Task → Task → List Task
append_task tasks task = tasks ++ task ∷ []

-- the tasks that stay
abbrev pub keep_tasks : (Task → Bool) → List Task → List Task
keep_tasks stays tasks = filter stays tasks
