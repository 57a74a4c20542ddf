-- What a change of those tasks that are meant keeps, and what is found behind it.
use Rattle.std.proofs.Common.{◌≡◌, ℕ, Bool, true, false, cond, List, [], ◌∷◌, map, Option, Some, refl, sym, ap, ◌∙◌}
use Rattle.std.specs.List.{All}
use Rattle.std.specs.Option.{option_map}
use Rattle.std.proofs.lemmas.List.Elements.{All-map, All-weaker}
use Rattle.lg_calls.specs.Order.{is_same}
use Rattle.lg_calls.specs.Task.{Task}
use Rattle.lg_calls.specs.Tasks.{has_id, find_task, change_meant}

pub field-cond : {X : Type 0} (field : Task → X) (b : Bool) (changed task : Task) → field changed ≡ field task → field (cond b changed task) ≡ field task
field-cond field true changed task keeps = keeps
field-cond field false changed task keeps = refl

-- what a change keeps of each task it keeps of the list
pub map-change_meant : {X : Type 0} (field : Task → X) (meant : Task → Bool) (change : Task → Task) → ((task : Task) → field (change task) ≡ field task)
    → (tasks : List Task) → map field (change_meant meant change tasks) ≡ map field tasks
map-change_meant field meant change keeps [] = refl
map-change_meant field meant change keeps (task ∷ tasks) =
    λ i. field-cond field (meant task) (change task) task (keeps task) i ∷ map-change_meant field meant change keeps tasks i

holds-cond : (P : Task → Type 0) (b : Bool) (changed task : Task) → P changed → P task → P (cond b changed task)
holds-cond P true changed task p q = p
holds-cond P false changed task p q = q

-- what holds of each task still does
pub All-change_meant : (P : Task → Type 0) (meant : Task → Bool) (change : Task → Task) → ((task : Task) → P task → P (change task))
    → (tasks : List Task) → All P tasks → All P (change_meant meant change tasks)
All-change_meant P meant change keeps tasks all =
    All-map P (λ task. cond (meant task) (change task) task) tasks
    (All-weaker P (λ task. P (cond (meant task) (change task) task)) (λ task here. holds-cond P (meant task) (change task) task (keeps task here) here) tasks all)

found-cond : (a b : Bool) (changed task : Task) (behind : Option Task) (change : Task → Task) (here : Option Task) → a ≡ b → change task ≡ changed → behind ≡ option_map change here
    → cond a (Some changed) behind ≡ option_map change (cond b (Some task) here)
found-cond a true changed task behind change here same is rest = ap (λ test. cond test (Some changed) behind) same ∙ ap Some (sym is)
found-cond a false changed task behind change here same is rest = ap (λ test. cond test (Some changed) behind) same ∙ rest

-- the task that is found is the one that was found before, changed where it is meant
pub find_task-change_meant : (meant : Task → Bool) (change : Task → Task) → ((task : Task) → (change task).id ≡ task.id) → (id : List ℕ) (tasks : List Task)
    → find_task id (change_meant meant change tasks) ≡ option_map (λ task. cond (meant task) (change task) task) (find_task id tasks)
find_task-change_meant meant change keeps id [] = refl
find_task-change_meant meant change keeps id (task ∷ tasks) =
    found-cond _ (has_id id task) (cond (meant task) (change task) task) task _ (λ t. cond (meant t) (change t) t) (find_task id tasks)
    (ap (is_same id) (field-cond (λ (t : Task). t.id) (meant task) (change task) task (keeps task))) refl (find_task-change_meant meant change keeps id tasks)

has-cond : (id : List ℕ) (b : Bool) (task : Task) → has_id id task ≡ b → (here : Option Task) → ((found : Task) → here ≡ Some found → has_id id found ≡ true)
    → (found : Task) → cond b (Some task) here ≡ Some found → has_id id found ≡ true
has-cond id true task is here rest found e = ap (has_id id) (let same : task ≡ found = cc in sym same) ∙ is
has-cond id false task is here rest found e = rest found e

-- the task that is found has the id
pub find_task-has : (id : List ℕ) (tasks : List Task) (found : Task) → find_task id tasks ≡ Some found → has_id id found ≡ true
find_task-has id [] found e = cc
find_task-has id (task ∷ tasks) found e = has-cond id (has_id id task) task refl (find_task id tasks) (find_task-has id tasks) found e
