-- What the replies to a worker that asks for work say is given.
use Rattle.std.proofs.Common.{◌≡◌, ◌≢◌, ℕ, Bool, true, false, cond, is_some, List, ◌++◌, Option, Some, None, refl, sym, ◌∙◌}
use Rattle.std.specs.Prelude.{codes}
use Rattle.std.specs.Option.{option_map_or}
use Rattle.std.proofs.lemmas.Option.{same_Some}
use Rattle.lg_json.specs.Tree.{Tree, null, str}
use Rattle.lg_calls.specs.declared.state.State.{State}
use Rattle.lg_calls.specs.Methods.GetWork.{given_fields, nothing_to_do, work_reply}
use Rattle.lg_calls.specs.Outcome.{replied}
use Rattle.lg_calls.specs.Task.{Task}
use Rattle.lg_calls.specs.Views.PendingCounts.{counts_of, known_counts, left_for, no_counts, state_field}
use Rattle.lg_calls.specs.Views.Trees.{Fields, record_of}
use Rattle.lg_calls.specs.Workers.{find_worker}
use Rattle.lg_plain.specs.WorkLaws.{field_named, told, Gives, GivesNothing}

-- whatever is counted before it
abbrev told-behind : (counted : Fields) (worker : List ℕ) (s : State) → Type 0
told-behind counted worker s = (given : Option Task)
    → field_named (codes "task_id") (record_of (counted ++ (given_fields given ++ state_field worker s))) ≡ Some (option_map_or (λ (task : Task). str task.id) given null)

told-none : (worker : List ℕ) (s : State) → told-behind no_counts worker s
told-none worker s None = refl
told-none worker s (Some task) = refl

told-known : (worker : List ℕ) (s : State) → told-behind (known_counts worker (left_for worker s.tasks) s) worker s
told-known worker s None = refl
told-known worker s (Some task) = refl

told-given : (worker : List ℕ) (s : State) (given : Option Task) → told (replied (work_reply worker s given)) ≡ Some (option_map_or (λ (task : Task). str task.id) given null)
unfolding work_reply counts_of
told-given worker s given = by_known (is_some (find_worker worker s.workers)) given
  where
    by_known : (known : Bool) → told-behind (cond known (known_counts worker (left_for worker s.tasks) s) no_counts) worker s
    by_known true = told-known worker s
    by_known false = told-none worker s

pub told-task : (worker : List ℕ) (s : State) (task : Task) → Gives task.id (replied (work_reply worker s (Some task)))
told-task worker s task = told-given worker s (Some task)

pub told-nothing : (worker : List ℕ) (s : State) → GivesNothing (replied (work_reply worker s None))
told-nothing worker s = told-given worker s None

pub told-disabled : (worker : List ℕ) (s : State) → GivesNothing (replied (nothing_to_do worker s))
unfolding nothing_to_do
told-disabled worker s = refl

no-text : (id : List ℕ) → str id ≢ null
no-text id e = cc

-- who is given is something
pub task-not_nothing : (worker : List ℕ) (s : State) (task : Task) → GivesNothing (replied (work_reply worker s (Some task))) → ⊥
task-not_nothing worker s task none =
    let same : Some (str task.id) ≡ Some null = sym (told-given worker s (Some task)) ∙ none in
    no-text task.id (same_Some (str task.id) null same)
