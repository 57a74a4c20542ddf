-- The search along a walk, one task after another.
use Rattle.std.proofs.Common.{◌≡◌, ℕ, ◌+◌, ◌<◌, ◌≤◌, true, false, cond, List, ◌∷◌, Some, None, length, drop, get_or, sym, ap, ◌∙◌, arith}
use Rattle.std.specs.Borrow.{Bor}
use Rattle.std.specs.List.{filter, find, scan}
use Rattle.std.specs.Option.{option_map}
use Rattle.std.proofs.lemmas.List.{drop_more, drop_all, get_or-map, length-map}
use Rattle.std.proofs.lemmas.List.Sums.{length-filter, count_by-le-length}
use Rattle.lg_calls.specs.declared.methods.get_work.GetWork.{GetWork}
use Rattle.lg_calls.specs.declared.state.State.{State}
use Rattle.lg_calls.specs.Task.{Task}
use Rattle.lg_calls.specs.Work.Candidate.{Place, is_candidate, first_candidate}
use Rattle.lg_calls.specs.Work.Laws.{StandByRank}
use Rattle.lg_calls.specs.Work.Rank.{by_rank}
use Rattle.lg_calls.specs.Work.Reserved.{Reserved, with_next, nothing_reserved}
use Rattle.lg_calls.specs.Work.Walk.{goes_over, is_trivial, walk}
use Rattle.lg_views.specs.Lent.{lent}
use Rattle.lg_work.specs.Choosing.{first_from}

-- a task that can't be given is passed by
pub passed_by : (ask : GetWork) (s : State) (before : Reserved) (task : Task) (rest : List Task) → is_candidate ask s (before, task) ≡ false
    → first_from ask s before (task ∷ rest) ≡ first_from ask s (with_next ask s before task) rest
unfolding first_from
passed_by ask s before task rest fails =
    ap (λ b. option_map (λ (place : Place). place.1) (cond b (Some (before, task)) (find (is_candidate ask s) (scan (with_next ask s) (λ reserved t. (reserved, t)) (with_next ask s before task) rest)))) fails

-- one that can be given is the first
pub found_here : (ask : GetWork) (s : State) (before : Reserved) (task : Task) (rest : List Task) → is_candidate ask s (before, task) ≡ true
    → first_from ask s before (task ∷ rest) ≡ Some task
unfolding first_from
found_here ask s before task rest passes =
    ap (λ b. option_map (λ (place : Place). place.1) (cond b (Some (before, task)) (find (is_candidate ask s) (scan (with_next ask s) (λ reserved t. (reserved, t)) (with_next ask s before task) rest)))) passes

-- and behind the last task there is none
pub nothing_left : (ask : GetWork) (s : State) (before : Reserved) (tasks : List Task) (i : ℕ) → length tasks ≤ i → first_from ask s before (drop i tasks) ≡ None
unfolding first_from
nothing_left ask s before tasks i past = ap (first_from ask s before) (drop_all i tasks past)

-- the next of the tasks that are lent
pub next_lent : (tasks : List (Bor Task)) (i : ℕ) (task : Bor Task) → i < length tasks → task ≡ get_or tasks i task
    → drop i (lent tasks) ≡ task.now ∷ drop (i + 1) (lent tasks)
next_lent tasks i task inside here =
    let within : i < length (lent tasks) = omega (arith, inside, length-map tasks (λ (t : Bor Task). t.now)) in
    drop_more (lent tasks) i task.now within
    ∙ ap (λ t. t ∷ drop (i + 1) (lent tasks)) (get_or-map (λ (t : Bor Task). t.now) tasks i task task.now inside ∙ ap (λ (t : Bor Task). t.now) (sym here))

-- from the whole walk on, with nothing reserved, it is the task that is chosen
pub first_of_walk : (ask : GetWork) (s : State) (before : Reserved) (tasks : List Task) → before ≡ nothing_reserved ask s → tasks ≡ walk ask.worker s
    → first_from ask s before tasks ≡ first_candidate ask s
unfolding first_from first_candidate
first_of_walk ask s before tasks nothing all =
    (λ i. option_map (λ (place : Place). place.1) (find (is_candidate ask s) (scan (with_next ask s) (λ reserved task. (reserved, task)) (nothing i) (all i))))

-- a walk is no longer than the list of the tasks
pub few_walked : (worker : List ℕ) (s : State)
    → StandByRank (filter (goes_over (is_trivial worker s) worker) s.tasks) (by_rank (filter (goes_over (is_trivial worker s) worker) s.tasks))
    → length (walk worker s) ≤ length s.tasks
unfolding walk
few_walked worker s stand =
    let test = goes_over (is_trivial worker s) worker in
    omega (arith, stand.as_many, length-filter test s.tasks, count_by-le-length test s.tasks)
