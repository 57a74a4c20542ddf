-- The tasks at the places, one place after another.
use Rattle.std.proofs.Common.{◌≡◌, ℕ, ◌+◌, ◌<◌, ◌≤◌, List, [], ◌∷◌, ◌++◌, Option, Some, None, length, get_or, take, sym, ap, ◌∙◌, append-nil, arith}
use Rattle.std.specs.Option.{option_flatten}
use Rattle.std.proofs.lemmas.List.{take_more, take_all, length-take-le}
use Rattle.std.proofs.lemmas.List.Elements.{filter_map-append}
use Rattle.std.proofs.lemmas.Option.{slice_get-get_or}
use Rattle.lg_calls.specs.declared.state.State.{State}
use Rattle.lg_calls.specs.Look.{CanBeLookedAt, tasks_at, task_at}
use Rattle.lg_calls.specs.Task.{Task}
use Rattle.lg_views.specs.Listed.{CanBeListed}

-- a state that can be listed can be looked at
pub CanBeLookedAt-listed : (s : State) → CanBeListed s → CanBeLookedAt s
CanBeLookedAt-listed s valid = record { few_tasks = omega (arith, valid.few_tasks); ids_differ = valid.ids_differ }

-- what stands at a place
there_is : (shelf : List (Option Task)) (place : ℕ) (there : Option Task) → place < length shelf → there ≡ task_at shelf place → get_or shelf place None ≡ there
there_is shelf place there within is = sym (is ∙ ap option_flatten (slice_get-get_or shelf place None within))

one_place_more : (shelf : List (Option Task)) (place : ℕ) (there : Option Task) → place < length shelf → there ≡ task_at shelf place
    → tasks_at (take (place + 1) shelf) ≡ tasks_at (take place shelf) ++ tasks_at (there ∷ [])
one_place_more shelf place there within is =
    ap tasks_at (take_more shelf place None within)
    ∙ (filter_map-append (λ here. here) (take place shelf) (get_or shelf place None ∷ [])
    ∙ ap (λ here. tasks_at (take place shelf) ++ tasks_at (here ∷ [])) (there_is shelf place there within is))

-- a task stands at the place at hand
pub task_more : (shelf : List (Option Task)) (place : ℕ) (task : Task) → place < length shelf → Some task ≡ task_at shelf place
    → tasks_at (take (place + 1) shelf) ≡ tasks_at (take place shelf) ++ task ∷ []
task_more shelf place task within is = one_place_more shelf place (Some task) within is

-- the place at hand is free
pub no_task_more : (shelf : List (Option Task)) (place : ℕ) → place < length shelf → None ≡ task_at shelf place
    → tasks_at (take (place + 1) shelf) ≡ tasks_at (take place shelf)
no_task_more shelf place within is = one_place_more shelf place None within is ∙ append-nil (tasks_at (take place shelf))

-- there are no more tasks than places
length-tasks_at : (shelf : List (Option Task)) → length (tasks_at shelf) ≤ length shelf
length-tasks_at [] = omega arith
length-tasks_at (None ∷ shelf) = omega (arith, length-tasks_at shelf)
length-tasks_at (Some task ∷ shelf) = omega (arith, length-tasks_at shelf)

-- behind the last place all tasks were looked at
pub all_tasks : (shelf : List (Option Task)) (place : ℕ) → length shelf ≤ place → tasks_at (take place shelf) ≡ tasks_at shelf
all_tasks shelf place past = ap tasks_at (take_all place shelf past)

-- and before a place there are no more tasks than places
pub few_before : (shelf : List (Option Task)) (place : ℕ) → place ≤ length shelf → length (tasks_at (take place shelf)) ≤ place
few_before shelf place within = omega (arith, length-tasks_at (take place shelf), length-take-le place shelf within)
