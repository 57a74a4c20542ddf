-- Who is meant where a task is set to RUNNING.
use Rattle.std.proofs.Common.{◌≡◌, ℕ, Bool, true, false, cond, not, ◌&&◌, ◌||◌, List, [], ◌∷◌, Option, Some, None, refl, sym, ap, subst, ◌∙◌}
use Rattle.std.specs.List.{All, list_all}
use Rattle.std.specs.Option.{option_and_then}
use Rattle.std.proofs.lemmas.Bool.{false≢true}
use Rattle.std.proofs.lemmas.List.Elements.{All-nil, All-cons, All-weaker}
use Rattle.std.proofs.lemmas.Option.{none-some, same_Some}
use Rattle.lg_calls.specs.declared.status.Status.TheVariants.{Running}
use Rattle.lg_calls.specs.Order.{is_same}
use Rattle.lg_calls.specs.Status.{batch_along, is_claim, is_held, is_meant}
use Rattle.lg_calls.specs.Task.{Task}
use Rattle.lg_calls.specs.Tasks.{ids_of, have_distinct_ids, has_id, find_task}
use Rattle.lg_plain.proofs.PathLemmas.{and-first, and-second, same-is}
use Rattle.lg_plain.proofs.WalkLemmas.{not-false}

not-along : (claims held : Bool) → (claims && not true && held) ≡ false
not-along true held = refl
not-along false held = refl

pub nobody_along : (found : Option Task) → option_and_then (batch_along Running) found ≡ None
nobody_along None = refl
nobody_along (Some task) = ap (λ b. cond b task.batch None) (not-along (is_claim task) (not (is_held Running task)))

or-nothing : (a : Bool) → (a || false) ≡ a
or-nothing true = refl
or-nothing false = refl

pub meant-alone : (id : List ℕ) (task : Task) → is_meant id None task ≡ has_id id task
meant-alone id task = or-nothing (has_id id task)

-- what holds of each id holds of each task's
all-ids : (test : List ℕ → Bool) (tasks : List Task) → list_all test (ids_of tasks) ≡ true → All (λ (task : Task). test task.id ≡ true) tasks
all-ids test [] all = All-nil (λ (task : Task). test task.id ≡ true)
all-ids test (task ∷ tasks) all =
    All-cons (λ (t : Task). test t.id ≡ true) task tasks (and-first _ _ all) (all-ids test tasks (and-second (test task.id) _ all))

found-step : (id : List ℕ) (m : Task) (tasks : List Task) (found : Task) (b : Bool) → has_id id m ≡ b
    → list_all (λ other. not (is_same m.id other)) (ids_of tasks) ≡ true
    → (find_task id tasks ≡ Some found → All (λ task. has_id id task ≡ true → task ≡ found) tasks)
    → cond b (Some m) (find_task id tasks) ≡ Some found → All (λ task. has_id id task ≡ true → task ≡ found) (m ∷ tasks)
found-step id m tasks found true has apart rest is =
    All-cons (λ task. has_id id task ≡ true → task ≡ found) m tasks (λ too. same_Some m found is)
    (All-weaker (λ task. not (is_same m.id task.id) ≡ true) (λ task. has_id id task ≡ true → task ≡ found)
    (λ task other too. absurd (not-false (is_same m.id task.id) other (ap (λ name. is_same name task.id) (sym (same-is id m.id has)) ∙ too)))
    tasks (all-ids (λ other. not (is_same m.id other)) tasks apart))
found-step id m tasks found false has apart rest is =
    All-cons (λ task. has_id id task ≡ true → task ≡ found) m tasks (λ too. absurd (false≢true (sym has ∙ too))) (rest is)

-- no task but the one that is found has the id
pub found-alone : (id : List ℕ) (tasks : List Task) (found : Task) → have_distinct_ids tasks ≡ true → find_task id tasks ≡ Some found
    → All (λ task. has_id id task ≡ true → task ≡ found) tasks
found-alone id [] found distinct is = absurd (none-some found is)
found-alone id (m ∷ tasks) found distinct is =
    found-step id m tasks found (has_id id m) refl (and-first _ _ distinct)
    (found-alone id tasks found (and-second (list_all (λ other. not (is_same m.id other)) (ids_of tasks)) _ distinct)) is

pub All-both : (P Q R : Task → Type 0) (tasks : List Task) → ((task : Task) → P task → Q task → R task) → All P tasks → All Q tasks → All R tasks
All-both P Q R tasks join one other = λ k d inside. join _ (one k d inside) (other k d inside)

-- a change of the task of an id that is fused of two
module _ (P : Task → Type 0) (id : List ℕ) (set begin : Task → Task) where
  abbrev pub once : Bool → Task → Task
  once meant task = cond meant (set task) task

  abbrev pub then_begun : Task → Task
  then_begun task = cond (has_id id task) (begin task) task

  pub fused : ((task : Task) → (set task).id ≡ task.id) → (task : Task) (b meant : Bool) → meant ≡ b → has_id id task ≡ b
      → (has_id id task ≡ true → P (begin (set task))) → P task → P (then_begun (once meant task))
  fused keeps task true meant is has valid here =
      subst (λ m. P (then_begun (once m task))) (sym is)
      (subst (λ t. P (cond t (begin (set task)) (set task))) (sym (ap (is_same id) (keeps task) ∙ has)) (valid has))
  fused keeps task false meant is has valid here =
      subst (λ m. P (then_begun (once m task))) (sym is) (subst (λ t. P (cond t (begin task) task)) (sym has) here)

  pub alone-set : (task : Task) (b meant : Bool) → meant ≡ b → has_id id task ≡ b → (has_id id task ≡ true → P (set task)) → P task → P (once meant task)
  alone-set task true meant is has valid here = subst (λ m. P (once m task)) (sym is) (valid has)
  alone-set task false meant is has valid here = subst (λ m. P (once m task)) (sym is) here
