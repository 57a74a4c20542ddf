-- Tasks that are picked one after another.
use Rattle.std.proofs.Common.{◌≡◌, ℕ, ◌+◌, ◌<◌, Bool, true, false, not, cond, List, [], ◌∷◌, ◌++◌, take, length, get_or, refl, sym, ap, ◌∙◌, append-nil, arith}
use Rattle.std.specs.Borrow.{Bor}
use Rattle.std.specs.List.{list_all}
use Rattle.std.specs.Prelude.{All, filter}
use Rattle.std.proofs.lemmas.List.{map_more, map_push}
use Rattle.std.proofs.lemmas.List.Elements.{filter-append, All-filter}
use Rattle.std.proofs.lemmas.List.Sums.{length-filter, count_by-le-length}
use Rattle.lg_calls.specs.declared.state.State.{State}
use Rattle.lg_calls.specs.Order.{is_same}
use Rattle.lg_calls.specs.Task.{Task}
use Rattle.lg_calls.specs.Tasks.{ids_of, have_distinct_ids}
use Rattle.lg_calls.specs.Valid.{IsValidTask}
use Rattle.lg_views.specs.Lent.{lent, CanBeShown}
use Rattle.lg_views.specs.Listed.{last_moment, CanBeListed}
use Rattle.lg_views.proofs.TestLemmas.{and-both, and-first, and-second}

if_wanted : (b : Bool) (wants : Task → Bool) (task : Task) → wants task ≡ b → filter wants (task ∷ []) ≡ filter (λ _. b) (task ∷ [])
if_wanted b wants task is = rw is refl

-- a task that is wanted is put behind the others
pub wanted_pushed : (wants : Task → Bool) (old new : List (Bor Task)) (task : Bor Task) → wants task.now ≡ true → new ≡ old ++ task ∷ [] → lent new ≡ lent old ++ filter wants (task.now ∷ [])
wanted_pushed wants old new task is grown =
    ap lent grown ∙ (map_push (λ (t : Bor Task). t.now) old task ∙ ap (λ more. lent old ++ more) (sym (if_wanted true wants task.now is)))

-- one that isn't is left out
pub unwanted_left : (wants : Task → Bool) (old : List (Bor Task)) (task : Task) → wants task ≡ false → lent old ≡ lent old ++ filter wants (task ∷ [])
unwanted_left wants old task is = sym (ap (λ more. lent old ++ more) (if_wanted false wants task is) ∙ append-nil (lent old))

-- one task more was looked at
pub looked_at_more : (wants : Task → Bool) (old new seen more : List Task) (task : Task) → more ≡ seen ++ task ∷ [] → old ≡ filter wants seen → new ≡ old ++ filter wants (task ∷ []) → new ≡ filter wants more
looked_at_more wants old new seen more task longer so_far grown =
    grown
    ∙ (ap (λ picked. picked ++ filter wants (task ∷ [])) so_far
    ∙ (sym (filter-append wants seen (task ∷ [])) ∙ ap (filter wants) (sym longer)))

-- one more of the tasks that are lent
pub lent_more : (tasks : List (Bor Task)) (i : ℕ) (item : Bor Task) → i < length tasks → item ≡ get_or tasks i item → lent (take (i + 1) tasks) ≡ lent (take i tasks) ++ item.now ∷ []
lent_more tasks i item within is =
    map_more (λ (t : Bor Task). t.now) tasks i item within ∙ ap (λ (t : Bor Task). lent (take i tasks) ++ t.now ∷ []) (sym is)

-- the tasks of a state that can be listed can be shown
pub CanBeShown-listed : (s : State) → CanBeListed s → CanBeShown s.tasks
CanBeShown-listed s valid = record { few = valid.few_tasks; ids_differ = valid.ids_differ; valid = valid.tasks }

all-if : (test : List ℕ → Bool) (b : Bool) (task : Task) (more : List Task) → test task.id ≡ true → list_all test (ids_of more) ≡ true
    → list_all test (ids_of (cond b (task ∷ more) more)) ≡ true
all-if test true task more here all = and-both _ _ here all
all-if test false task more here all = all

all-filter : (test : List ℕ → Bool) (wants : Task → Bool) (tasks : List Task) → list_all test (ids_of tasks) ≡ true → list_all test (ids_of (filter wants tasks)) ≡ true
all-filter test wants [] all = refl
all-filter test wants (task ∷ tasks) all =
    all-if test (wants task) task (filter wants tasks) (and-first _ _ all) (all-filter test wants tasks (and-second (test task.id) _ all))

distinct-if : (b : Bool) (task : Task) (more : List Task) → list_all (λ id. not (is_same task.id id)) (ids_of more) ≡ true → have_distinct_ids more ≡ true
    → have_distinct_ids (cond b (task ∷ more) more) ≡ true
distinct-if true task more apart distinct = and-both _ _ apart distinct
distinct-if false task more apart distinct = distinct

-- ids that differ still do among those that are picked
distinct-filter : (wants : Task → Bool) (tasks : List Task) → have_distinct_ids tasks ≡ true → have_distinct_ids (filter wants tasks) ≡ true
distinct-filter wants [] distinct = refl
distinct-filter wants (task ∷ tasks) distinct =
    let test : List ℕ → Bool = λ id. not (is_same task.id id) in
    distinct-if (wants task) task (filter wants tasks)
    (all-filter test wants tasks (and-first _ _ distinct))
    (distinct-filter wants tasks (and-second (list_all test (ids_of tasks)) _ distinct))

-- and so can those of them that are picked
pub CanBeShown-filter : (wants : Task → Bool) (tasks : List Task) → CanBeShown tasks → CanBeShown (filter wants tasks)
CanBeShown-filter wants tasks can = record {
  few = omega (arith, can.few, length-filter wants tasks, count_by-le-length wants tasks);
  ids_differ = distinct-filter wants tasks can.ids_differ;
  valid = All-filter wants (IsValidTask last_moment) tasks can.valid;
}
