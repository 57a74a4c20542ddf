-- What `get_work` leaves is valid.
use Rattle.std.proofs.Common.{◌≡◌, ℕ, ◌<◌, ◌≤◌, Bool, true, false, cond, IsTrue, is_some, List, [], ◌∷◌, length, Option, Some, None, refl, sym, ap, subst, ◌∙◌, arith}
use Rattle.std.specs.Cmp.{tied_itself}
use Rattle.std.specs.Cmp.Lexicographic.{nat_list_cmp_total}
use Rattle.std.specs.List.{All, Contains, filter, find}
use Rattle.std.specs.Option.{option_map_or}
use Rattle.std.specs.Ordering.{is_eq}
use Rattle.std.specs.Prelude.{nat_lt, option_and_then}
use Rattle.std.proofs.lemmas.Bool.{false≢true}
use Rattle.std.proofs.lemmas.List.{length-map}
use Rattle.std.proofs.lemmas.List.Elements.{All-contains, All-contains_itself, All-cons, All-filter, All-map, All-nil, All-weaker, Contains-append_left, Contains-append_right, Contains-push}
use Rattle.std.proofs.lemmas.Option.{none-some, same_Some}
use Rattle.lg_base.specs.declared.moment.Moment.{Moment}
use Rattle.lg_calls.specs.declared.methods.get_work.GetWork.{GetWork}
use Rattle.lg_calls.specs.declared.state.State.{State}
use Rattle.lg_calls.specs.declared.status.Status.TheVariants.{BatchRunning, Pending, Running}
use Rattle.lg_calls.specs.Laws.{NumbersKeepRising}
use Rattle.lg_calls.specs.Methods.GetWork.{assistant_info, assistant_marked, given_or_again, given_to, heard_asking, newly_chosen, newly_given, nothing_to_do, work_given}
use Rattle.lg_calls.specs.Order.{all_pairs, are_distinct}
use Rattle.lg_calls.specs.Outcome.{Outcome, replied}
use Rattle.lg_calls.specs.Running.{run_by}
use Rattle.lg_calls.specs.Status.{along_with, is_held, is_meant, is_status, set_alone}
use Rattle.lg_calls.specs.Step.{where_replied}
use Rattle.lg_calls.specs.Task.{Task}
use Rattle.lg_calls.specs.Tasks.{change_meant, find_task, has_id, have_distinct_ids, have_rising_numbers}
use Rattle.lg_calls.specs.Valid.{is_running, IsValidState, IsValidTask}
use Rattle.lg_calls.specs.Work.Again.{first_lost, given_again, was_lost}
use Rattle.lg_calls.specs.Work.Assigning.{assigned, assigned_again, running_since}
use Rattle.lg_calls.specs.Work.Candidate.{first_candidate}
use Rattle.lg_calls.specs.Work.Laws.{IsFirst, StandByRank}
use Rattle.lg_calls.specs.Work.Rank.{by_rank}
use Rattle.lg_calls.specs.Work.Ready.{is_ready}
use Rattle.lg_calls.specs.Work.Reserved.{can_be_kept, reserved}
use Rattle.lg_calls.specs.Work.Walk.{goes_over, is_trivial, walk}
use Rattle.lg_calls.specs.Workers.{heard_worker, is_disabled}
use Rattle.lg_plain.proofs.DistinctLemmas.{first-not}
use Rattle.lg_plain.proofs.KeptLemmas.{KeepsPlace, place-set_alone}
use Rattle.lg_plain.proofs.ListLemmas.{All-change_meant, map-change_meant}
use Rattle.lg_plain.proofs.MeantLemmas.{All-both, found-alone, fused, meant-alone, nobody_along, once, then_begun}
use Rattle.lg_plain.proofs.PathLemmas.{and-first}
use Rattle.lg_plain.proofs.RequestLemmas.{valid-known, valid-put, valid-worker_added}
use Rattle.lg_plain.proofs.StatusLemmas.{is_status-is}
use Rattle.lg_plain.proofs.ValidityLemmas.{valid-run_by}

-- ---- the task of an id, where ids differ

none-has : (id : List ℕ) (tasks : List Task) → find_task id tasks ≡ None → All (λ task. has_id id task ≡ false) tasks
none-has id [] e = All-nil (λ task. has_id id task ≡ false)
none-has id (m ∷ tasks) e =
    let both = first-not (has_id id m) m (find_task id tasks) e in
    All-cons (λ task. has_id id task ≡ false) m tasks both.0 (none-has id tasks both.1)

-- no other task of a list has the id of one
pub only : (tasks : List Task) (task : Task) → have_distinct_ids tasks ≡ true → Contains tasks task → All (λ other. has_id task.id other ≡ true → other ≡ task) tasks
only tasks task distinct there = by_found (find_task task.id tasks) refl
  where
    itself : has_id task.id task ≡ true
    itself = ap is_eq (tied_itself nat_list_cmp_total task.id)

    by_found : (found : Option Task) → find_task task.id tasks ≡ found → All (λ other. has_id task.id other ≡ true → other ≡ task) tasks
    by_found None none =
        absurd (false≢true (sym (All-contains (λ other. has_id task.id other ≡ false) tasks task (none-has task.id tasks none) there) ∙ itself))
    by_found (Some found) is =
        let alone = found-alone task.id tasks found distinct is in
        let same = All-contains (λ other. has_id task.id other ≡ true → other ≡ found) tasks task alone there itself in
        All-weaker (λ other. has_id task.id other ≡ true → other ≡ found) (λ other. has_id task.id other ≡ true → other ≡ task)
        (λ other is_found has. is_found has ∙ sym same) tasks alone

-- ---- a list of tasks in the place of another

-- what is said of the list, but for its tasks one by one
record IsList (s : State) (tasks : List Task) : Type 0 where
  few : length tasks ≤ 1000000
  ids : IsTrue (have_distinct_ids tasks)
  rise : IsTrue (have_rising_numbers tasks)
  below : All (λ task. task.number < s.next) tasks

list-changed : (s : State) (tasks : List Task) (meant : Task → Bool) (change : Task → Task) → KeepsPlace change → IsList s tasks
    → IsList s (change_meant meant change tasks)
list-changed s tasks meant change place here =
    let long : length (change_meant meant change tasks) ≡ length tasks = length-map tasks (λ task. cond (meant task) (change task) task) in
    record {
      few = omega (arith, long, here.few);
      ids = subst (λ ids. IsTrue (are_distinct ids)) (sym (map-change_meant (λ (t : Task). t.id) meant change place.id tasks)) here.ids;
      rise = ap (all_pairs nat_lt) (map-change_meant (λ (t : Task). t.number) meant change place.number tasks) ∙ here.rise;
      below = All-change_meant (λ task. task.number < s.next) meant change (λ task below. subst (λ n. n < s.next) (sym (place.number task)) below) tasks here.below;
    }

list-valid : (s : State) → IsValidState s → IsList s s.tasks
list-valid s valid = record { few = valid.few_tasks; ids = valid.ids_differ; rise = valid.numbers_rise; below = valid.numbers_below_next }

with_tasks : (s : State) (tasks : List Task) → IsList s tasks → All (IsValidTask s.moment) tasks → IsValidState s → IsValidState (record s { tasks = tasks })
with_tasks s tasks here each valid = record {
  moment_in_range = valid.moment_in_range;
  pruned_before = valid.pruned_before;
  next_in_range = valid.next_in_range;
  settings_in_range = valid.settings_in_range;
  few_tasks = here.few;
  ids_differ = here.ids;
  numbers_rise = here.rise;
  numbers_below_next = here.below;
  tasks = each;
  workers_in_order = valid.workers_in_order;
  workers = valid.workers;
  batchers_in_order = valid.batchers_in_order;
  batchers = valid.batchers;
}

-- ---- a task is given

apart : Running ≡ BatchRunning → ⊥
apart e = cc

-- nothing holds a task that is PENDING
unheld : (now : Moment) (task : Task) → is_status Pending task.status ≡ true → IsValidTask now task → is_held Running task ≡ false
unheld now task waits valid = by_mark (is_some task.disabled_at) refl
  where
    by_mark : (b : Bool) → is_some task.disabled_at ≡ b → b ≡ false
    by_mark true e = absurd (false≢true (sym (ap (is_status Pending) (valid.disabled e)) ∙ waits))
    by_mark false e = refl

begins : (worker : List ℕ) (delay : ℕ) (now : Moment) (task : Task) → is_status Pending task.status ≡ true → IsValidTask now task
    → IsValidTask now (run_by worker now None (set_alone delay now Running task))
begins worker delay now task waits valid =
    valid-run_by delay now Running task refl (unheld now task waits valid) valid worker None (λ e. absurd (apart e))

valid-assigned : (worker : List ℕ) (task : Task) (s : State) → Contains s.tasks task → is_status Pending task.status ≡ true → IsValidState s
    → IsValidState (assigned worker task.id s)
valid-assigned worker found s there waits valid =
    let id = found.id in
    let delay = s.settings.retry_delay in
    let set : Task → Task = set_alone delay s.moment Running in
    let begin : Task → Task = run_by worker s.moment None in
    let V : Task → Type 0 = IsValidTask s.moment in
    let meant : Task → Bool = is_meant id (along_with Running id s.tasks) in
    let place = place-set_alone delay s.moment Running in
    with_tasks s (change_meant (has_id id) begin (change_meant meant set s.tasks))
    (list-changed s (change_meant meant set s.tasks) (has_id id) begin (record { id = λ task. refl; number = λ task. refl })
    (list-changed s s.tasks meant set place (list-valid s valid)))
    (subst (λ along. All V (change_meant (has_id id) begin (change_meant (is_meant id along) set s.tasks))) (sym (nobody_along (find_task id s.tasks)))
    (All-map V (then_begun V id set begin) (change_meant (is_meant id None) set s.tasks)
    (All-map (λ task. V (then_begun V id set begin task)) (λ task. once V id set begin (is_meant id None task) task) s.tasks
    (All-both (λ task. has_id id task ≡ true → task ≡ found) V (λ task. V (then_begun V id set begin (once V id set begin (is_meant id None task) task))) s.tasks
    (λ task alone here. fused V id set begin place.id task (has_id id task) (is_meant id None task) (meant-alone id task) refl
    (λ has. begins worker delay s.moment task (ap (λ (t : Task). is_status Pending t.status) (alone has) ∙ waits) here) here)
    (only s.tasks found valid.ids_differ there) valid.tasks))))
    valid

-- ---- a task is given again

since : (now : Moment) (task : Task) → is_running task.status ≡ true → IsValidTask now task → IsValidTask now (running_since now task)
since now task runs valid = record {
  params = valid.params;
  deps = valid.deps;
  workers = valid.workers;
  stakeholders = valid.stakeholders;
  worker_running = valid.worker_running;
  time_running = sym runs;
  batch = valid.batch;
  in_batch = valid.in_batch;
  disabled = valid.disabled;
  failed = valid.failed;
  added = valid.added;
  updated = valid.updated;
  running_since = omega arith;
  disabled_at = valid.disabled_at;
  failures = valid.failures;
  policy = valid.policy;
  retry = valid.retry;
  remove = valid.remove;
}

valid-assigned_again : (task : Task) (s : State) → Contains s.tasks task → is_status Running task.status ≡ true → IsValidState s
    → IsValidState (assigned_again task.id s)
valid-assigned_again found s there runs valid =
    with_tasks s (change_meant (has_id found.id) (running_since s.moment) s.tasks)
    (list-changed s s.tasks (has_id found.id) (running_since s.moment) (record { id = λ task. refl; number = λ task. refl }) (list-valid s valid))
    (All-map V (λ task. cond (has_id found.id task) (running_since s.moment task) task) s.tasks
    (All-both (λ task. has_id found.id task ≡ true → task ≡ found) V (λ task. V (cond (has_id found.id task) (running_since s.moment task) task)) s.tasks
    (λ task alone here. by_id task here (has_id found.id task) alone) (only s.tasks found valid.ids_differ there) valid.tasks))
    valid
  where
    V : Task → Type 0
    V = IsValidTask s.moment

    by_id : (task : Task) → V task → (b : Bool) → (b ≡ true → task ≡ found) → V (cond b (running_since s.moment task) task)
    by_id task here true alone =
        since s.moment task (ap (λ (t : Task). is_running t.status) (alone refl) ∙ sym (ap is_running (is_status-is Running found.status runs))) here
    by_id task here false alone = here

-- ---- which task is given

pub here : {X : Type 0} (x : X) (xs : List X) → Contains (x ∷ xs) x
here x xs = Contains-append_left (x ∷ []) xs x (Contains-push [] x)

passing-step : (test : Task → Bool) (m : Task) (tasks : List Task) (found : Task)
    → (find test tasks ≡ Some found → Contains tasks found × (test found ≡ true)) → (b : Bool) → test m ≡ b → cond b (Some m) (find test tasks) ≡ Some found
    → Contains (m ∷ tasks) found × (test found ≡ true)
passing-step test m tasks found behind true is e = subst (λ task. Contains (m ∷ tasks) task × (test task ≡ true)) (same_Some m found e) (here m tasks, is)
passing-step test m tasks found behind false is e = let there = behind e in (Contains-append_right (m ∷ []) tasks found there.0, there.1)

-- the first that passes stands in the list, and passes
pub passing : (test : Task → Bool) (tasks : List Task) (found : Task) → find test tasks ≡ Some found → Contains tasks found × (test found ≡ true)
passing test [] found e = absurd (none-some found e)
passing test (m ∷ tasks) found e = passing-step test m tasks found (passing test tasks found) (test m) refl e

-- ---- a worker that asks

pub valid-heard : (ask : GetWork) (s : State) → IsValidState s → IsValidState (heard_asking ask s)
valid-heard ask s valid =
    let known = valid-known ask.worker s valid in
    valid-put (record (heard_worker ask.worker s.moment s.workers) { last_get_work = Some s.moment }) s
    (record { started = known.started; last_active = omega arith; last_get_work = omega arith; info = known.info }) valid

pub valid-marked : (ask : GetWork) (s : State) → IsValidState s → IsValidState (assistant_marked ask s)
valid-marked ask s valid = by_choice ask.assistant
  where
    marked : State
    marked = assistant_marked (record ask { assistant = true }) s

    by_choice : (b : Bool) → IsValidState (cond b marked s)
    by_choice true = valid-worker_added (record { worker = ask.worker; info = assistant_info }) s valid
    by_choice false = valid

module _
    (ranks : (tasks : List Task) → IsTrue (have_rising_numbers tasks) → StandByRank tasks (by_rank tasks))
    (rising : (tasks : List Task) → IsTrue (have_rising_numbers tasks) → NumbersKeepRising tasks)
    (first : (ask : GetWork) (s : State) (task : Task) → first_candidate ask s ≡ Some task → IsFirst ask s task) where
  -- who is given again is RUNNING
  lost : (ask : GetWork) (s : State) (task : Task) → IsTrue (have_rising_numbers s.tasks) → given_again ask s ≡ Some task → Contains s.tasks task × (is_status Running task.status ≡ true)
  unfolding given_again
  lost ask s task rise e = by_known ask.current_tasks e
    where
      by_known : (known : Option (List (List ℕ))) → option_and_then (first_lost ask.worker s.tasks) known ≡ Some task
          → Contains s.tasks task × (is_status Running task.status ≡ true)
      by_known None e = absurd (none-some task e)
      by_known (Some known) e =
          let found = passing (was_lost ask.worker known) (by_rank s.tasks) task e in
          ((ranks s.tasks rise).no_others task found.0, and-first _ _ found.1)

  walked : (worker : List ℕ) (s : State) (task : Task) → IsTrue (have_rising_numbers s.tasks) → Contains (walk worker s) task → Contains s.tasks task
  unfolding walk
  walked worker s task rise there =
      let goes : Task → Bool = goes_over (is_trivial worker s) worker in
      let among = (ranks (filter goes s.tasks) ((rising s.tasks rise).kept goes)).no_others task there in
      All-contains (Contains s.tasks) (filter goes s.tasks) task (All-filter goes (Contains s.tasks) s.tasks (All-contains_itself s.tasks)) among

  ready-waits : (tasks : List Task) (task : Task) → is_ready tasks task ≡ true → is_status Pending task.status ≡ true
  unfolding is_ready
  ready-waits tasks task ready = and-first _ _ ready

  -- who is given anew is PENDING
  pub chosen : (ask : GetWork) (s : State) (task : Task) → IsTrue (have_rising_numbers s.tasks) → newly_chosen ask s ≡ Some task → Contains s.tasks task × (is_status Pending task.status ≡ true)
  chosen ask s task rise e = by_pause s.paused e
    where
      by_pause : (paused : Bool) → cond paused None (first_candidate ask s) ≡ Some task → Contains s.tasks task × (is_status Pending task.status ≡ true)
      by_pause true e = absurd (none-some task e)
      by_pause false e =
          let is = first ask s task e in
          let kept = and-first (can_be_kept s (reserved ask s is.front) task) _ is.candidate in (
            walked ask.worker s task rise (subst (λ tasks. Contains tasks task) (sym is.in_walk) (Contains-append_right is.front (task ∷ is.rest) task (here task is.rest))),
            ready-waits s.tasks task (and-first _ _ kept),
          )

  valid-newly_given : (base : State) (ask : GetWork) (s : State) → IsValidState s → IsValidState (where_replied base (newly_given ask s)).0
  valid-newly_given base ask s valid = by_choice (newly_chosen ask s) refl
    where
      by_choice : (choice : Option Task) → newly_chosen ask s ≡ choice → IsValidState (option_map_or (λ (task : Task). assigned ask.worker task.id s) choice s)
      by_choice None none = valid
      by_choice (Some task) is = let facts = chosen ask s task valid.numbers_rise is in valid-assigned ask.worker task s facts.0 facts.1 valid

  valid-given_to : (base : State) (ask : GetWork) (s : State) → IsValidState s → IsValidState (where_replied base (given_to ask s)).0
  valid-given_to base ask s valid = by_choice (given_again ask s) refl
    where
      by_choice : (choice : Option Task) → given_again ask s ≡ choice → IsValidState (where_replied base (given_or_again ask s choice)).0
      by_choice None none = valid-newly_given base ask s valid
      by_choice (Some task) is = let facts = lost ask s task valid.numbers_rise is in valid-assigned_again task s facts.0 facts.1 valid

  -- ---- the whole

  pub valid-work_given : (base : State) (ask : GetWork) (s : State) → IsValidState s → IsValidState (where_replied base (work_given ask s)).0
  unfolding work_given
  valid-work_given base ask s valid = by_disabled (is_disabled ask.worker heard.workers)
    where
      heard : State
      heard = heard_asking ask s

      marked : State
      marked = assistant_marked ask heard

      by_disabled : (b : Bool)
          → IsValidState (where_replied base (cond {A = State × Outcome} b (heard, replied (nothing_to_do ask.worker heard)) (given_to ask marked))).0
      by_disabled true = valid-heard ask s valid
      by_disabled false = valid-given_to base ask marked (valid-marked ask heard (valid-heard ask s valid))
