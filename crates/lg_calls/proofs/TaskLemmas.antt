-- What the words on the list of tasks leave, and what is found behind each of them.
use Rattle.std.proofs.Common.{◌≡◌, ◌≢◌, refl, sym, ap, subst, ◌∙◌, ℕ, ◌<◌, Bool, true, false, not, cond, ltb, IsTrue, List, [], ◌∷◌, length, map, Option, Some, None}
use Rattle.std.specs.List.{find, list_all, All}
use Rattle.std.specs.Option.{option_map, option_or}
use Rattle.std.proofs.lemmas.List.{length-map}
use Rattle.std.proofs.lemmas.List.Elements.{All-nil, All-cons, All-head, All-tail, All-weaker}
use Rattle.std.proofs.lemmas.Bool.{lt-ltb}
use Rattle.std.proofs.lemmas.List.Folds.{find-append}
use Rattle.std.proofs.lemmas.List.Sums.{list_all-from_AllPass}
use Rattle.lg_calls.specs.Laws.{KeepsIds, KeepsNumbers, found_where_kept}
use Rattle.lg_calls.specs.Order.{is_same, all_pairs}
use Rattle.lg_calls.specs.Task.{Task}
use Rattle.lg_calls.specs.Tasks.{ids_of, numbers_of, have_distinct_ids, have_rising_numbers, has_id, find_task, change_meant, change_task, append_task, keep_tasks}
use Rattle.lg_calls.proofs.OrderLemmas.{both, first_of_both, second_of_both, same-is, same-itself, same-not, same-sym, all_pairs-filter, all_pairs-push, all_pairs-map}

-- ---- a change

changed-same : {X : Type 0} (field : Task → X) (change : Task → Task) → ((task : Task) → field (change task) ≡ field task) → (b : Bool) (task : Task) → field (cond b (change task) task) ≡ field task
changed-same field change keeps true task = keeps task
changed-same field change keeps false task = refl

-- what a change keeps of each task it keeps of the list
pub map-change_meant : {X : Type 0} (field : Task → X) (is_meant : Task → Bool) (change : Task → Task) → ((task : Task) → field (change task) ≡ field task) → (tasks : List Task) → map field (change_meant is_meant change tasks) ≡ map field tasks
map-change_meant field is_meant change keeps [] = refl
map-change_meant field is_meant change keeps (task ∷ tasks) =
    λ i. changed-same field change keeps (is_meant task) task i ∷ map-change_meant field is_meant change keeps tasks i

pub ids_of-change_meant : (is_meant : Task → Bool) (change : Task → Task) → KeepsIds change → (tasks : List Task) → ids_of (change_meant is_meant change tasks) ≡ ids_of tasks
ids_of-change_meant is_meant change keeps tasks = map-change_meant (λ task. task.id) is_meant change keeps tasks

pub numbers_of-change_meant : (is_meant : Task → Bool) (change : Task → Task) → KeepsNumbers change → (tasks : List Task) → numbers_of (change_meant is_meant change tasks) ≡ numbers_of tasks
numbers_of-change_meant is_meant change keeps tasks = map-change_meant (λ task. task.number) is_meant change keeps tasks

pub length-change_meant : (is_meant : Task → Bool) (change : Task → Task) (tasks : List Task) → length (change_meant is_meant change tasks) ≡ length tasks
length-change_meant is_meant change tasks = length-map tasks (λ task. cond (is_meant task) (change task) task)

changed-holds : (P : Task → Type 0) (change : Task → Task) (b : Bool) (task : Task) → (b ≡ true → P task → P (change task)) → P task → P (cond b (change task) task)
changed-holds P change true task step here = step refl here
changed-holds P change false task step here = here

-- what holds of each task still does, where the change keeps it at each task that is meant
pub All-change_meant : (P : Task → Type 0) (is_meant : Task → Bool) (change : Task → Task) → ((task : Task) → is_meant task ≡ true → P task → P (change task)) → (tasks : List Task) → All P tasks → All P (change_meant is_meant change tasks)
All-change_meant P is_meant change step [] all = All-nil P
All-change_meant P is_meant change step (task ∷ tasks) all =
    All-cons P _ _ (changed-holds P change (is_meant task) task (step task) (All-head P task tasks all)) (All-change_meant P is_meant change step tasks (All-tail P task tasks all))

found-changed : (change : Task → Task) (a b : Bool) (task : Task) (here there : Option Task) → a ≡ b → there ≡ option_map change here → cond a (Some (change task)) there ≡ option_map change (cond b (Some task) here)
found-changed change a true task here there e rest = ap (λ test. cond test (Some (change task)) there) e
found-changed change a false task here there e rest = ap (λ test. cond test (Some (change task)) there) e ∙ rest

-- what is found is the changed task
pub find_task-change_meant : (is_meant : Task → Bool) (change : Task → Task) → KeepsIds change → (id : List ℕ) (tasks : List Task) → find_task id (change_meant is_meant change tasks) ≡ option_map (λ task. cond (is_meant task) (change task) task) (find_task id tasks)
find_task-change_meant is_meant change keeps id [] = refl
find_task-change_meant is_meant change keeps id (task ∷ tasks) =
    let same = ap (λ other. is_same id other) (changed-same (λ (t : Task). t.id) change keeps (is_meant task) task) in
    found-changed (λ (t : Task). cond (is_meant t) (change t) t) _ _ task (find_task id tasks) _ same (find_task-change_meant is_meant change keeps id tasks)

-- two functions that agree where the test passes agree on what is found
agree-found : (p : Task → Bool) (f g : Task → Task) → ((task : Task) → p task ≡ true → f task ≡ g task) → (tasks : List Task) → option_map f (find p tasks) ≡ option_map g (find p tasks)
agree-found p f g agree [] = refl
agree-found p f g agree (task ∷ tasks) = agree-here p f g task (p task) (agree task) (find p tasks) (agree-found p f g agree tasks)
  where
    agree-here : (p : Task → Bool) (f g : Task → Task) (task : Task) (b : Bool) → (b ≡ true → f task ≡ g task) → (here : Option Task) → option_map f here ≡ option_map g here → option_map f (cond b (Some task) here) ≡ option_map g (cond b (Some task) here)
    agree-here p f g task true agree here rest = ap Some (agree refl)
    agree-here p f g task false agree here rest = rest

itself-mapped : (o : Option Task) → option_map (λ task. task) o ≡ o
itself-mapped None = refl
itself-mapped (Some task) = refl

-- changing the task of an id: it is found changed, and each other task as it was
pub find_task-change_task : (id : List ℕ) (change : Task → Task) → KeepsIds change → (tasks : List Task) → find_task id (change_task id change tasks) ≡ option_map change (find_task id tasks)
find_task-change_task id change keeps tasks =
    find_task-change_meant (has_id id) change keeps id tasks
    ∙ agree-found (has_id id) (λ task. cond (has_id id task) (change task) task) change (λ task is. ap (λ b. cond b (change task) task) is) tasks

pub find_task-change_other : (id : List ℕ) (change : Task → Task) → KeepsIds change → (tasks : List Task) (other : List ℕ) → other ≢ id → find_task other (change_task id change tasks) ≡ find_task other tasks
find_task-change_other id change keeps tasks other apart =
    find_task-change_meant (has_id id) change keeps other tasks
    ∙ agree-found (has_id other) (λ task. cond (has_id id task) (change task) task) (λ task. task)
    (λ task is. ap (λ b. cond b (change task) task) (same-not id task.id (λ e. apart (same-is other task.id is ∙ sym e)))) tasks
    ∙ itself-mapped (find_task other tasks)

-- ---- what is found

found-has : (p : Task → Bool) (b : Bool) (task : Task) → p task ≡ b → (here : Option Task) → ((found : Task) → here ≡ Some found → p found ≡ true) → (found : Task) → cond b (Some task) here ≡ Some found → p found ≡ true
found-has p true task is here rest found e = ap p (let same : task ≡ found = cc in sym same) ∙ is
found-has p false task is here rest found e = rest found e

found-passes : (p : Task → Bool) (tasks : List Task) (found : Task) → find p tasks ≡ Some found → p found ≡ true
found-passes p [] found e = cc
found-passes p (task ∷ tasks) found e = found-has p (p task) task refl (find p tasks) (found-passes p tasks) found e

-- the task that is found has the id
pub find_task-id : (id : List ℕ) (tasks : List Task) (found : Task) → find_task id tasks ≡ Some found → found.id ≡ id
find_task-id id tasks found e = sym (same-is id found.id (found-passes (has_id id) tasks found e))

found-holds : (P : Task → Type 0) (b : Bool) (task : Task) → P task → (here : Option Task) → ((found : Task) → here ≡ Some found → P found) → (found : Task) → cond b (Some task) here ≡ Some found → P found
found-holds P true task holds here rest found e = let same : task ≡ found = cc in subst P same holds
found-holds P false task holds here rest found e = rest found e

-- and what holds of each task holds of it
pub All-find_task : (P : Task → Type 0) (id : List ℕ) (tasks : List Task) → All P tasks → (found : Task) → find_task id tasks ≡ Some found → P found
All-find_task P id [] all found e = absurd (none e)
  where
    none : None ≡ Some found → ⊥
    none e = cc
All-find_task P id (task ∷ tasks) all found e =
    found-holds P (has_id id task) task (All-head P task tasks all) (find_task id tasks) (All-find_task P id tasks (All-tail P task tasks all)) found e

not-here : (b : Bool) (task : Task) (here : Option Task) → cond b (Some task) here ≡ None → (not b ≡ true) × (here ≡ None)
not-here true task here e = cc
not-here false task here e = (refl, e)

-- where none is found, no task has the id
pub no_task-has : (id : List ℕ) (tasks : List Task) → find_task id tasks ≡ None → list_all (λ task. not (is_same task.id id)) tasks ≡ true
no_task-has id [] e = refl
no_task-has id (task ∷ tasks) e =
    let split = not-here (has_id id task) task (find_task id tasks) e in
    both _ _ (ap not (same-sym task.id id) ∙ split.0) (no_task-has id tasks split.1)

passed-over : (b : Bool) (task : Task) (here : Option Task) → not b ≡ true → here ≡ None → cond b (Some task) here ≡ None
passed-over true task here other e = cc
passed-over false task here other e = e

-- and the other way round
pub find_task-none : (id : List ℕ) (tasks : List Task) → list_all (λ task. not (is_same id task.id)) tasks ≡ true → find_task id tasks ≡ None
find_task-none id [] others = refl
find_task-none id (task ∷ tasks) others =
    passed-over (has_id id task) task (find_task id tasks) (first_of_both _ _ others) (find_task-none id tasks (second_of_both _ _ others))

-- ---- a task more

or-none : (o : Option Task) → option_or o None ≡ o
or-none None = refl
or-none (Some task) = refl

pub find_task-add_task : (task : Task) (tasks : List Task) → find_task task.id tasks ≡ None → find_task task.id (append_task tasks task) ≡ Some task
find_task-add_task task tasks new =
    find-append (has_id task.id) tasks (task ∷ [])
    ∙ ap (λ o. option_or o (cond (has_id task.id task) (Some task) None)) new
    ∙ ap (λ b. cond b (Some task) None) (same-itself task.id)

pub find_task-add_other : (task : Task) (tasks : List Task) (other : List ℕ) → other ≢ task.id → find_task other (append_task tasks task) ≡ find_task other tasks
find_task-add_other task tasks other apart =
    find-append (has_id other) tasks (task ∷ [])
    ∙ ap (λ b. option_or (find_task other tasks) (cond b (Some task) None)) (same-not other task.id apart)
    ∙ or-none (find_task other tasks)

-- ---- where tasks go

found-kept : (stays : Task → Bool) (id : List ℕ) (task : Task) (kept : List Task) (here : Option Task) (a b : Bool) → stays task ≡ a → has_id id task ≡ b → find_task id kept ≡ found_where_kept stays here → (b ≡ true → here ≡ None) → find_task id (cond a (task ∷ kept) kept) ≡ found_where_kept stays (cond b (Some task) here)
found-kept stays id task kept here true true keeps is rest none =
    ap (λ b. cond b (Some task) (find_task id kept)) is ∙ sym (ap (λ a. cond a (Some task) None) keeps)
found-kept stays id task kept here true false keeps is rest none =
    ap (λ b. cond b (Some task) (find_task id kept)) is ∙ rest
found-kept stays id task kept here false true keeps is rest none =
    rest ∙ ap (found_where_kept stays) (none refl) ∙ sym (ap (λ a. cond a (Some task) None) keeps)
found-kept stays id task kept here false false keeps is rest none = rest

kept-pairs : (stays : Task → Bool) (id : List ℕ) (tasks : List Task) → all_pairs (λ (one other : Task). not (is_same one.id other.id)) tasks ≡ true → find_task id (keep_tasks stays tasks) ≡ found_where_kept stays (find_task id tasks)
kept-pairs stays id [] apart = refl
kept-pairs stays id (task ∷ tasks) apart =
    found-kept stays id task (keep_tasks stays tasks) (find_task id tasks) (stays task) (has_id id task) refl refl
    (kept-pairs stays id tasks (second_of_both _ _ apart))
    (λ is. ap (λ name. find_task name tasks) (same-is id task.id is) ∙ find_task-none task.id tasks (first_of_both _ _ apart))

pairs_apart : (tasks : List Task) → IsTrue (have_distinct_ids tasks) → all_pairs (λ (one other : Task). not (is_same one.id other.id)) tasks ≡ true
pairs_apart tasks apart = sym (all_pairs-map (λ (task : Task). task.id) (λ one other. not (is_same one other)) tasks) ∙ apart

-- a task that stays is found as before, and one that goes isn't found
pub find_task-keep_tasks : (stays : Task → Bool) (id : List ℕ) (tasks : List Task) → IsTrue (have_distinct_ids tasks) → find_task id (keep_tasks stays tasks) ≡ found_where_kept stays (find_task id tasks)
find_task-keep_tasks stays id tasks apart = kept-pairs stays id tasks (pairs_apart tasks apart)

-- ---- ids that differ, and numbers that rise

pub have_distinct_ids-change_meant : (is_meant : Task → Bool) (change : Task → Task) → KeepsIds change → (tasks : List Task) → IsTrue (have_distinct_ids tasks) → IsTrue (have_distinct_ids (change_meant is_meant change tasks))
have_distinct_ids-change_meant is_meant change keeps tasks apart =
    ap (all_pairs (λ one other. not (is_same one other))) (ids_of-change_meant is_meant change keeps tasks) ∙ apart

pub have_distinct_ids-add_task : (task : Task) (tasks : List Task) → IsTrue (have_distinct_ids tasks) → find_task task.id tasks ≡ None → IsTrue (have_distinct_ids (append_task tasks task))
have_distinct_ids-add_task task tasks apart new =
    all_pairs-map (λ (t : Task). t.id) (λ one other. not (is_same one other)) (append_task tasks task)
    ∙ all_pairs-push (λ (one other : Task). not (is_same one.id other.id)) tasks task (pairs_apart tasks apart) (no_task-has task.id tasks new)

pub have_distinct_ids-keep_tasks : (stays : Task → Bool) (tasks : List Task) → IsTrue (have_distinct_ids tasks) → IsTrue (have_distinct_ids (keep_tasks stays tasks))
have_distinct_ids-keep_tasks stays tasks apart =
    all_pairs-map (λ (t : Task). t.id) (λ one other. not (is_same one other)) (keep_tasks stays tasks)
    ∙ all_pairs-filter (λ (one other : Task). not (is_same one.id other.id)) stays tasks (pairs_apart tasks apart)

pairs_rise : (tasks : List Task) → IsTrue (have_rising_numbers tasks) → all_pairs (λ (one other : Task). ltb one.number other.number) tasks ≡ true
pairs_rise tasks rise = sym (all_pairs-map (λ (task : Task). task.number) ltb tasks) ∙ rise

pub have_rising_numbers-change_meant : (is_meant : Task → Bool) (change : Task → Task) → KeepsNumbers change → (tasks : List Task) → IsTrue (have_rising_numbers tasks) → IsTrue (have_rising_numbers (change_meant is_meant change tasks))
have_rising_numbers-change_meant is_meant change keeps tasks rise =
    ap (all_pairs ltb) (numbers_of-change_meant is_meant change keeps tasks) ∙ rise

pub have_rising_numbers-add_task : (task : Task) (tasks : List Task) → IsTrue (have_rising_numbers tasks) → All (λ (other : Task). other.number < task.number) tasks → IsTrue (have_rising_numbers (append_task tasks task))
have_rising_numbers-add_task task tasks rise below =
    all_pairs-map (λ (t : Task). t.number) ltb (append_task tasks task)
    ∙ all_pairs-push (λ (one other : Task). ltb one.number other.number) tasks task (pairs_rise tasks rise)
    (list_all-from_AllPass (λ (other : Task). ltb other.number task.number) tasks
    (All-weaker (λ (other : Task). other.number < task.number) (λ (other : Task). ltb other.number task.number ≡ true) (λ other lower. lt-ltb other.number task.number lower) tasks below))

pub have_rising_numbers-keep_tasks : (stays : Task → Bool) (tasks : List Task) → IsTrue (have_rising_numbers tasks) → IsTrue (have_rising_numbers (keep_tasks stays tasks))
have_rising_numbers-keep_tasks stays tasks rise =
    all_pairs-map (λ (t : Task). t.number) ltb (keep_tasks stays tasks)
    ∙ all_pairs-filter (λ (one other : Task). ltb one.number other.number) stays tasks (pairs_rise tasks rise)
