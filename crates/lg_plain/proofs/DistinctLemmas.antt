-- Ids differ still where a task with a new one is put behind the others.
use Rattle.std.proofs.Common.{◌≡◌, ℕ, Bool, true, false, not, List, [], ◌∷◌, Option, Some, None, cond, is_some, refl, sym, ap, ◌∙◌}
use Rattle.std.specs.List.{list_all}
use Rattle.std.proofs.lemmas.Option.{none-some}
use Rattle.lg_calls.specs.Order.{is_same}
use Rattle.lg_calls.specs.Task.{Task}
use Rattle.lg_calls.specs.Tasks.{ids_of, have_distinct_ids, has_id, find_task, append_task}
use Rattle.lg_plain.proofs.PathLemmas.{same-is, and-both, and-first, and-second}

pub first-not : (b : Bool) (m : Task) (rest : Option Task) → cond b (Some m) rest ≡ None → (b ≡ false) × (rest ≡ None)
first-not true m rest e = absurd (none-some m (sym e))
first-not false m rest e = (refl, e)

pub differs : (one other : List ℕ) (b : Bool) → is_same one other ≡ b → is_same other one ≡ false → not b ≡ true
differs one other true same apart =
    let is : is_same other one ≡ true = ap (λ text. is_same other text) (same-is one other same) ∙ ap (λ text. is_same text other) (sym (same-is one other same)) ∙ same in
    cc
differs one other false same apart = refl

all-append : (test : List ℕ → Bool) (tasks : List Task) (task : Task) → list_all test (ids_of tasks) ≡ true → test task.id ≡ true
    → list_all test (ids_of (append_task tasks task)) ≡ true
all-append test [] task all here = and-both _ _ here refl
all-append test (m ∷ tasks) task all here = and-both _ _ (and-first _ _ all) (all-append test tasks task (and-second (test m.id) _ all) here)

pub distinct-append : (tasks : List Task) (task : Task) → have_distinct_ids tasks ≡ true → find_task task.id tasks ≡ None → have_distinct_ids (append_task tasks task) ≡ true
distinct-append [] task distinct none = refl
distinct-append (m ∷ tasks) task distinct none =
    let apart = first-not (has_id task.id m) m (find_task task.id tasks) none in
    let test : List ℕ → Bool = λ other. not (is_same m.id other) in
    and-both _ _
    (all-append test tasks task (and-first _ _ distinct) (differs m.id task.id (is_same m.id task.id) refl apart.0))
    (distinct-append tasks task (and-second (list_all test (ids_of tasks)) _ distinct) apart.1)

nobody : (found : Option Task) → false ≡ is_some found → found ≡ None
nobody None none = refl
nobody (Some task) none = cc

-- no task has the id
pub distinct_new : (tasks : List Task) (task : Task) → have_distinct_ids tasks ≡ true → false ≡ is_some (find_task task.id tasks)
    → have_distinct_ids (append_task tasks task) ≡ true
distinct_new tasks task distinct none = distinct-append tasks task distinct (nobody (find_task task.id tasks) none)
