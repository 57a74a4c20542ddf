-- Tasks that are picked by two tests, one behind the other, and runs that are pushed.
use Rattle.std.proofs.Common.{◌≡◌, ℕ, ◌≤◌, length, arith, Bool, true, false, ◌&&◌, cond, List, [], ◌∷◌, ◌++◌, refl, sym, ap, ◌∙◌}
use Rattle.std.specs.Prelude.{filter}
use Rattle.std.proofs.lemmas.List.Elements.{filter_map-append}
use Rattle.std.proofs.lemmas.List.Sums.{length-filter, count_by-le-length}
use Rattle.std.specs.Option.{option_map}
use Rattle.lg_calls.specs.declared.state.State.{State}
use Rattle.lg_calls.specs.Task.{Task}
use Rattle.lg_calls.specs.declared.status.Status.TheVariants.{Running}
use Rattle.lg_calls.specs.Status.{is_status}
use Rattle.lg_calls.specs.Views.PendingCounts.{run_shown, runner_of, is_left, counts_for, left_for, running_for}
use Rattle.lg_json.specs.Tree.{Tree}
use Rattle.lg_views.specs.Runs.{runs_of}

both-if : (q : Bool) (here : Task) (behind : Task → Bool) (more : List Task) → filter behind (cond q (here ∷ more) more) ≡ cond q (cond (behind here) (here ∷ filter behind more) (filter behind more)) (filter behind more)
both-if true here behind more = refl
both-if false here behind more = refl

one-if : (a b c : Bool) (task : Task) (more : List Task) → (a && b) ≡ c → cond a (cond b (task ∷ more) more) more ≡ cond c (task ∷ more) more
one-if true b c task more is = ap (λ test. cond test (task ∷ more) more) is
one-if false b c task more is = ap (λ test. cond test (task ∷ more) more) is

-- one test behind another is both of them
pub filter-filter : (first second both : Task → Bool) → ((task : Task) → (first task && second task) ≡ both task)
    → (tasks : List Task) → filter second (filter first tasks) ≡ filter both tasks
filter-filter first second both is [] = refl
filter-filter first second both is (task ∷ tasks) =
    both-if (first task) task second (filter first tasks)
    ∙ (one-if (first task) (second task) (both task) task (filter second (filter first tasks)) (is task)
    ∙ ap (λ more. cond (both task) (task ∷ more) more) (filter-filter first second both is tasks))

pub and-swapped : (a b : Bool) → (a && b) ≡ (b && a)
and-swapped true true = refl
and-swapped true false = refl
and-swapped false true = refl
and-swapped false false = refl

-- one task more was looked at
pub runs_more : (s : State) (old new : List Tree) (seen more : List Task) (task : Task) → more ≡ seen ++ task ∷ [] → old ≡ runs_of s seen → new ≡ old ++ runs_of s (task ∷ [])
    → new ≡ runs_of s more
runs_more s old new seen more task longer so_far grown =
    grown
    ∙ (ap (λ shown. shown ++ runs_of s (task ∷ [])) so_far
    ∙ (sym (filter_map-append (λ (t : Task). option_map (run_shown t) (runner_of s t)) seen (task ∷ [])) ∙ ap (runs_of s) (sym longer)))

-- of the tasks that count for a worker, those that are left, and those that run
pub left_among : (worker : List ℕ) (tasks counted left : List Task) → counted ≡ filter (counts_for worker tasks) tasks → left ≡ filter is_left counted
    → left ≡ left_for worker tasks
left_among worker tasks counted left all is =
    is
    ∙ (ap (filter is_left) all
    ∙ filter-filter (counts_for worker tasks) is_left (λ task. is_left task && counts_for worker tasks task) (λ task. and-swapped (counts_for worker tasks task) (is_left task)) tasks)

pub running_among : (worker : List ℕ) (tasks counted running : List Task) → counted ≡ filter (counts_for worker tasks) tasks
    → running ≡ filter (λ task. is_status Running task.status) counted → running ≡ running_for worker tasks
running_among worker tasks counted running all is =
    is
    ∙ (ap (filter (λ (task : Task). is_status Running task.status)) all
    ∙ filter-filter (counts_for worker tasks) (λ task. is_status Running task.status) (λ task. is_status Running task.status && counts_for worker tasks task)
    (λ task. and-swapped (counts_for worker tasks task) (is_status Running task.status)) tasks)

-- no more tasks count than there are
pub few_counted : (worker : List ℕ) (tasks : List Task) → length tasks ≤ 1000000 → length (left_for worker tasks) ≤ 1000000
few_counted worker tasks few =
    let test : Task → Bool = λ task. is_left task && counts_for worker tasks task in omega (arith, few, length-filter test tasks, count_by-le-length test tasks)
