-- What those who look at a state need: a valid state can be looked at, and where all places are taken the place of a task
-- is its place in the list.
use Rattle.std.proofs.Common.{Bool, true, false, cond, ltb, ◌≤◌, length, None, Option, ap, sym, ◌∙◌, ◌≡◌, ℕ, refl, not, List, [], ◌∷◌, map, Some, position, arith}
use Rattle.std.specs.List.{find, slice_get, prefix_len, position_or_len}
use Rattle.std.specs.Option.{option_and_then, option_flatten}
use Rattle.std.proofs.lemmas.Bool.Decides.{nat_tests}
use Rattle.std.proofs.lemmas.List.{length-map}
use Rattle.std.proofs.lemmas.List.Folds.{find_at}
use Rattle.std.proofs.lemmas.Option.{slice_get_past}
use Rattle.lg_calls.specs.declared.state.State.{State}
use Rattle.lg_calls.specs.Look.{CanBeLookedAt, tasks_at, task_at, holds_id, place_of}
use Rattle.lg_calls.specs.Task.{Task}
use Rattle.lg_calls.specs.Tasks.{has_id, find_task}
use Rattle.lg_calls.specs.Valid.{IsValidState}

prefix_len-all : (id : List ℕ) (tasks : List Task) → prefix_len (λ there. not (holds_id id there)) (map Some tasks) ≡ prefix_len (λ task. not (has_id id task)) tasks
prefix_len-all id [] = refl
prefix_len-all id (task ∷ tasks) = rw (prefix_len-all id tasks) refl

pub place_of-all : (id : List ℕ) (tasks : List Task) → place_of id (map Some tasks) ≡ position (has_id id) tasks
place_of-all id tasks = rw (prefix_len-all id tasks, length-map tasks Some) refl

pub CanBeLookedAt-valid : (s : State) → IsValidState s → CanBeLookedAt s
CanBeLookedAt-valid s valid = record { few_tasks = omega (arith, valid.few_tasks); ids_differ = valid.ids_differ }

found-there : (id : List ℕ) (places : List (Option Task)) → option_flatten (find (holds_id id) places) ≡ find_task id (tasks_at places)
found-there id [] = refl
found-there id (None ∷ places) = found-there id places
found-there id (Some task ∷ places) =
    elim (has_id id task) as (λ b. option_flatten (cond b (Some (Some task)) (find (holds_id id) places)) ≡ cond b (Some task) (find_task id (tasks_at places)))
    [ true ↦ refl | false ↦ found-there id places ]

past : (n m : ℕ) → ltb n m ≡ false → m ≤ n
past n m e = grind (arith, nat_tests)

at-position : (places : List (Option Task)) (n : ℕ) (b : Bool) → ltb n (length places) ≡ b → option_and_then (task_at places) (cond b (Some n) None) ≡ option_flatten (slice_get places n)
at-position places n true e = refl
at-position places n false e = ap option_flatten (sym (slice_get_past places n (past n (length places) e)))

-- what stands at the place of an id is the task that is found by the id
pub task_at-place_of : (id : List ℕ) (places : List (Option Task)) → option_and_then (task_at places) (place_of id places) ≡ find_task id (tasks_at places)
task_at-place_of id places =
    at-position places (position_or_len (holds_id id) places) _ refl
    ∙ ap option_flatten (sym (find_at (holds_id id) places))
    ∙ found-there id places
