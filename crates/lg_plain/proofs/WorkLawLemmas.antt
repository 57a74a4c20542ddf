-- How a step goes in which a worker asks for work, and what a task that begins to run was.
use Rattle.std.proofs.Common.{◌≡◌, ◌≢◌, ℕ, Bool, true, false, cond, not, ◌||◌, IsTrue, IsSomeAnd, List, [], ◌∷◌, ◌++◌, Option, Some, None, refl, sym, ap, subst, ◌∙◌}
use Rattle.std.specs.List.{All, Contains}
use Rattle.std.specs.Prelude.{max}
use Rattle.std.specs.Option.{option_map, option_map_or, option_and_then}
use Rattle.std.proofs.lemmas.Bool.{false≢true}
use Rattle.std.proofs.lemmas.List.Elements.{All-contains}
use Rattle.std.proofs.lemmas.Option.{none-some, same_Some}
use Rattle.lg_base.specs.declared.moment.Moment.{Moment}
use Rattle.lg_calls.specs.declared.methods.get_work.GetWork.{GetWork}
use Rattle.lg_calls.specs.declared.request.Request.{Request}
use Rattle.lg_calls.specs.declared.request.Request.TheVariants as R
use Rattle.lg_calls.specs.declared.state.State.{State}
use Rattle.lg_calls.specs.declared.status.Status.TheVariants.{Running}
use Rattle.lg_calls.specs.declared.worker.WorkerRec.{WorkerRec}
use Rattle.lg_calls.specs.Laws.{NumbersKeepRising}
use Rattle.lg_calls.specs.Methods.AddWorker.{informed}
use Rattle.lg_calls.specs.Methods.GetWork.{assistant_info, assistant_marked, given_or_again, given_to, heard_asking, newly_chosen, nothing_to_do, work_given, work_reply}
use Rattle.lg_calls.specs.Outcome.{Outcome, replied}
use Rattle.lg_calls.specs.Running.{run_by}
use Rattle.lg_calls.specs.Status.{along_with, is_meant, set_alone}
use Rattle.lg_calls.specs.Step.{begun, where_replied}
use Rattle.lg_calls.specs.Task.{Task}
use Rattle.lg_calls.specs.Tasks.{change_meant, find_task, has_id, have_distinct_ids, have_rising_numbers}
use Rattle.lg_calls.specs.Valid.{IsValidState}
use Rattle.lg_calls.specs.Work.Again.{given_again}
use Rattle.lg_calls.specs.Work.Assigning.{assigned, assigned_again, running_since}
use Rattle.lg_calls.specs.Work.Candidate.{first_candidate}
use Rattle.lg_calls.specs.Work.Laws.{IsFirst, StandByRank}
use Rattle.lg_calls.specs.Work.Rank.{by_rank}
use Rattle.lg_calls.specs.Workers.{is_disabled, known_or_new, put_worker}
use Rattle.lg_calls.proofs.CallerLemmas.{begun_by}
use Rattle.lg_plain.specs.WorkLaws.{asked, heard, seen, BeginsToRun}
use Rattle.lg_plain.proofs.GivenLemmas.{chosen, only, passing}
use Rattle.lg_plain.proofs.KeptLemmas.{place-set_alone}
use Rattle.lg_plain.proofs.ListLemmas.{field-cond, find_task-change_meant}
use Rattle.lg_plain.proofs.MeantLemmas.{meant-alone, nobody_along}

-- ---- how a step goes

-- the state that the search sees, of one in which nothing was heard yet
abbrev pub seen_of : GetWork → State → State
seen_of ask s = assistant_marked ask (heard_asking ask s)

-- the worker is disabled; or a task is given again; or no task is chosen; or one is
pub ways : (P : State × Outcome → Type 0) (base : State) (ask : GetWork) (s : State)
    → (is_disabled ask.worker (heard_asking ask s).workers ≡ true → P (heard_asking ask s, replied (nothing_to_do ask.worker (heard_asking ask s))))
    → ((task : Task) → is_disabled ask.worker (heard_asking ask s).workers ≡ false → given_again ask (seen_of ask s) ≡ Some task
    → P (assigned_again task.id (seen_of ask s), replied (work_reply ask.worker (seen_of ask s) (Some task))))
    → (is_disabled ask.worker (heard_asking ask s).workers ≡ false → given_again ask (seen_of ask s) ≡ None → newly_chosen ask (seen_of ask s) ≡ None
    → P (seen_of ask s, replied (work_reply ask.worker (seen_of ask s) None)))
    → ((task : Task) → is_disabled ask.worker (heard_asking ask s).workers ≡ false → given_again ask (seen_of ask s) ≡ None → newly_chosen ask (seen_of ask s) ≡ Some task
    → P (assigned ask.worker task.id (seen_of ask s), replied (work_reply ask.worker (seen_of ask s) (Some task))))
    → P (where_replied base (work_given ask s))
unfolding work_given
ways P base ask s disabled again nothing anew = by_disabled (is_disabled ask.worker here.workers) refl
  where
    here : State
    here = heard_asking ask s

    there : State
    there = assistant_marked ask here

    by_choice : is_disabled ask.worker here.workers ≡ false → given_again ask there ≡ None → (choice : Option Task) → newly_chosen ask there ≡ choice
        → P (option_map_or (λ (task : Task). assigned ask.worker task.id there) choice there, replied (work_reply ask.worker there choice))
    by_choice on none None e = nothing on none e
    by_choice on none (Some task) e = anew task on none e

    by_again : is_disabled ask.worker here.workers ≡ false → (found : Option Task) → given_again ask there ≡ found → P (where_replied base (given_or_again ask there found))
    by_again on None e = by_choice on e (newly_chosen ask there) refl
    by_again on (Some task) e = again task on e

    by_disabled : (b : Bool) → is_disabled ask.worker here.workers ≡ b
        → P (where_replied base (cond {A = State × Outcome} b (here, replied (nothing_to_do ask.worker here)) (given_to ask there)))
    by_disabled true e = disabled e
    by_disabled false e = by_again e (given_again ask there) refl

-- ---- what hearing of a worker leaves

marked-keeps : {X : Type 0} (field : State → X) → ((worker : WorkerRec) (s : State) → field (put_worker worker s) ≡ field s) → (ask : GetWork) (s : State)
    → field (assistant_marked ask s) ≡ field s
marked-keeps field keeps ask s = by_choice ask.assistant
  where
    marked : State
    marked = put_worker (informed assistant_info (known_or_new ask.worker s.moment s.workers)) s

    by_choice : (b : Bool) → field (cond b marked s) ≡ field s
    by_choice true = keeps (informed assistant_info (known_or_new ask.worker s.moment s.workers)) s
    by_choice false = refl

pub tasks-marked : (ask : GetWork) (s : State) → (assistant_marked ask s).tasks ≡ s.tasks
tasks-marked = marked-keeps (λ (s : State). s.tasks) (λ worker s. refl)

pub limits-marked : (ask : GetWork) (s : State) → (assistant_marked ask s).limits ≡ s.limits
limits-marked = marked-keeps (λ (s : State). s.limits) (λ worker s. refl)

paused-marked : (ask : GetWork) (s : State) → (assistant_marked ask s).paused ≡ s.paused
paused-marked = marked-keeps (λ (s : State). s.paused) (λ worker s. refl)

pub tasks-begun : (s : State) (now : ℕ) (request : Request) → (begun s now request).tasks ≡ s.tasks
tasks-begun s now request = ap (λ (there : State). there.tasks) (begun_by s now request (record { 0 = max s.moment.0 now }) refl)

pub limits-begun : (s : State) (now : ℕ) (request : Request) → (begun s now request).limits ≡ s.limits
limits-begun s now request = ap (λ (there : State). there.limits) (begun_by s now request (record { 0 = max s.moment.0 now }) refl)

-- the search sees the tasks, and whether the scheduler is paused, as they were before the step
pub tasks-seen : (s : State) (now : ℕ) (ask : GetWork) → (seen s now ask).tasks ≡ s.tasks
tasks-seen s now ask = tasks-marked ask (heard s now ask) ∙ tasks-begun s now (R.GetWork ask)

pub paused-seen : (s : State) (now : ℕ) (ask : GetWork) → (seen s now ask).paused ≡ s.paused
paused-seen s now ask =
    paused-marked ask (heard s now ask) ∙ ap (λ (there : State). there.paused) (begun_by s now (R.GetWork ask) (record { 0 = max s.moment.0 now }) refl)

-- ---- what a task was that begins to run

-- a task is RUNNING behind a step
abbrev RunsIn : List Task → Task → Type 0
RunsIn tasks task = IsSomeAnd (find_task task.id tasks) (λ after. after.status ≡ Running)

runs-found : (tasks : List Task) (task found : Task) → find_task task.id tasks ≡ Some found → RunsIn tasks task → found.status ≡ Running
runs-found tasks task found is runs = subst (λ (there : Option Task). IsSomeAnd there (λ after. after.status ≡ Running)) is runs

-- a task that is given again was RUNNING already
again-ran : (tasks : List Task) (id : List ℕ) (now : Moment) (task : Task) → find_task task.id tasks ≡ Some task
    → RunsIn (change_meant (has_id id) (running_since now) tasks) task → task.status ≡ Running
again-ran tasks id now task known runs =
    sym (field-cond (λ (t : Task). t.status) (has_id id task) (running_since now task) task refl)
    ∙ runs-found (change_meant (has_id id) (running_since now) tasks) task (cond (has_id id task) (running_since now task) task)
    (find_task-change_meant (has_id id) (running_since now) (λ t. refl) task.id tasks ∙ ap (option_map (λ t. cond (has_id id t) (running_since now t) t)) known) runs

-- no other task than the one of the id becomes RUNNING
pub other-status : (id : List ℕ) (set begin : Task → Task) (task : Task) (b : Bool) → has_id id task ≡ b → b ≡ false
    → (cond (has_id id (cond (is_meant id None task) (set task) task)) (begin (cond (is_meant id None task) (set task) task)) (cond (is_meant id None task) (set task) task)) ≡ task
other-status id set begin task b has differs =
    let apart : has_id id task ≡ false = has ∙ differs in
    ap (λ m. cond (has_id id (cond m (set task) task)) (begin (cond m (set task) task)) (cond m (set task) task)) (meant-alone id task ∙ apart)
    ∙ ap (λ m. cond m (begin task) task) apart

assigned-ran : (worker : List ℕ) (id : List ℕ) (s : State) (task : Task) → find_task task.id s.tasks ≡ Some task
    → RunsIn (assigned worker id s).tasks task → task.status ≢ Running → (b : Bool) → has_id id task ≡ b → b ≡ true
assigned-ran worker id s task known runs waited true has = refl
assigned-ran worker id s task known runs waited false has =
    let set : Task → Task = set_alone s.settings.retry_delay s.moment Running in
    let begin : Task → Task = run_by worker s.moment None in
    let once : Task → Task = λ t. cond (is_meant id None t) (set t) t in
    let alone : (assigned worker id s).tasks ≡ change_meant (has_id id) begin (change_meant (is_meant id None) set s.tasks) =
    ap (λ (along : Option (List ℕ)). change_meant (has_id id) begin (change_meant (is_meant id along) set s.tasks)) (nobody_along (find_task id s.tasks)) in
    let there : find_task task.id (change_meant (has_id id) begin (change_meant (is_meant id None) set s.tasks)) ≡ Some (cond (has_id id (once task)) (begin (once task)) (once task)) =
    find_task-change_meant (has_id id) begin (λ t. refl) task.id (change_meant (is_meant id None) set s.tasks)
    ∙ ap (option_map (λ t. cond (has_id id t) (begin t) t))
    (find_task-change_meant (is_meant id None) set (place-set_alone s.settings.retry_delay s.moment Running).id task.id s.tasks ∙ ap (option_map once) known) in
    absurd (waited (runs-found (assigned worker id s).tasks task task
    (ap (find_task task.id) alone ∙ there ∙ ap Some (other-status id set begin task false has refl)) runs))

-- a task that begins to run was chosen anew, and is told
pub record WasChosen (ask : GetWork) (s : State) (task : Task) (outcome : State × Outcome) : Type 0 where
  pub enabled : is_disabled ask.worker (heard_asking ask s).workers ≡ false
  pub again : given_again ask (seen_of ask s) ≡ None
  pub choice : newly_chosen ask (seen_of ask s) ≡ Some task
  pub is : outcome ≡ (assigned ask.worker task.id (seen_of ask s), replied (work_reply ask.worker (seen_of ask s) (Some task)))

module _
    (ranks : (tasks : List Task) → IsTrue (have_rising_numbers tasks) → StandByRank tasks (by_rank tasks))
    (rising : (tasks : List Task) → IsTrue (have_rising_numbers tasks) → NumbersKeepRising tasks)
    (first : (ask : GetWork) (s : State) (task : Task) → first_candidate ask s ≡ Some task → IsFirst ask s task) where
  was_chosen : (base : State) (ask : GetWork) (s : State) (task : Task) → IsTrue (have_distinct_ids s.tasks) → IsTrue (have_rising_numbers s.tasks)
      → find_task task.id (seen_of ask s).tasks ≡ Some task → task.status ≢ Running → RunsIn (where_replied base (work_given ask s)).0.tasks task
      → WasChosen ask s task (where_replied base (work_given ask s))
  was_chosen base ask s task distinct rise known waited =
      ways (λ outcome. RunsIn outcome.0.tasks task → WasChosen ask s task outcome) base ask s
      (λ disabled runs. absurd (waited (runs-found s.tasks task task (ap (find_task task.id) (sym same) ∙ known) runs)))
      (λ given on e runs. absurd (waited (again-ran there.tasks given.id there.moment task known runs)))
      (λ on none e runs. absurd (waited (runs-found there.tasks task task known runs)))
      (λ given on none e runs. is_given given on none e runs)
    where
      there : State
      there = assistant_marked ask (heard_asking ask s)

      same : there.tasks ≡ s.tasks
      same = tasks-marked ask (heard_asking ask s)

      is_given : (given : Task) → is_disabled ask.worker (heard_asking ask s).workers ≡ false → given_again ask there ≡ None → newly_chosen ask there ≡ Some given
          → RunsIn (assigned ask.worker given.id there).tasks task
          → WasChosen ask s task (assigned ask.worker given.id there, replied (work_reply ask.worker there (Some given)))
      is_given given on none e runs =
          let stands = (chosen ranks rising first ask there given (subst (λ tasks. IsTrue (have_rising_numbers tasks)) (sym same) rise) e).0 in
          let among = (passing (has_id task.id) there.tasks task known).0 in
          let has = assigned-ran ask.worker given.id there task known runs waited (has_id given.id task) refl in
          let one : task ≡ given =
          All-contains (λ other. has_id given.id other ≡ true → other ≡ given) there.tasks task
          (only there.tasks given (subst (λ tasks. IsTrue (have_distinct_ids tasks)) (sym same) distinct) stands) among has in
          record {
            enabled = on;
            again = none;
            choice = e ∙ ap Some (sym one);
            is = ap (λ (t : Task). (assigned ask.worker t.id there, replied (work_reply ask.worker there (Some t)))) (sym one);
          }

  pub begins-chosen : (s : State) (now : ℕ) (ask : GetWork) (task : Task) → IsValidState s → BeginsToRun s now ask task
      → WasChosen ask (begun s now (R.GetWork ask)) task (asked s now ask)
  begins-chosen s now ask task valid begins =
      let here = begun s now (R.GetWork ask) in
      let same = tasks-begun s now (R.GetWork ask) in
      was_chosen s ask here task (subst (λ tasks. IsTrue (have_distinct_ids tasks)) (sym same) valid.ids_differ)
      (subst (λ tasks. IsTrue (have_rising_numbers tasks)) (sym same) valid.numbers_rise) begins.known begins.waited begins.runs
