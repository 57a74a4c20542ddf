-- The change of status keeps tasks and states valid.
use Rattle.std.proofs.Common.{◌≡◌, ℕ, ◌+◌, ◌^◌, ◌<◌, ◌≤◌, Bool, true, false, cond, not, ◌&&◌, is_some, IsSome, IsTrue, Option, Some, None, Result, Ok, Err, OnOk, OnErr, unwrap_or, List, length, nat_lt, refl, sym, ap, subst, ◌∙◌, arith}
use Rattle.std.specs.List.{All}
use Rattle.std.proofs.lemmas.Bool.{false≢true}
use Rattle.std.proofs.lemmas.List.{length-map}
use Rattle.lg_base.specs.declared.faults.NoMemory.{NoMemory}
use Rattle.lg_base.specs.declared.moment.Moment.{Moment}
use Rattle.lg_retry.specs.declared.policy.Policy.{Policy}
use Rattle.lg_retry.specs.Failures.{History, DoNotFall, no_failures, add_failure, is_excessive}
use Rattle.lg_calls.specs.declared.state.State.{State}
use Rattle.lg_calls.specs.declared.status.Status.{Status}
use Rattle.lg_calls.specs.declared.status.Status.TheVariants.{Pending, Running, BatchRunning, Done, Failed, Disabled, Unknown}
use Rattle.lg_calls.specs.Order.{all_pairs, are_distinct}
use Rattle.lg_calls.specs.Status.{is_status, is_held, forgiven, forgiven_by, failed_once_more, judged, judged_by, carried_out, set_alone, enabled_alone, is_meant, along_with, set_status, enable}
use Rattle.lg_calls.specs.Task.{Task}
use Rattle.lg_calls.specs.Tasks.{has_id, change_meant}
use Rattle.lg_calls.specs.Valid.{is_running, NotLater, FitsMoment, IsValidHistory, IsValidTask, IsValidState}
use Rattle.lg_plain.specs.Laws.{rest_of, RunsOn}
use Rattle.lg_calls.specs.Running.{run_by}
use Rattle.lg_plain.proofs.ListLemmas.{map-change_meant, All-change_meant}
use Rattle.lg_plain.proofs.RuleLemmas.{set_alone-held, set_alone-free}
use Rattle.lg_plain.proofs.StatusLemmas.{is_status-along, settled-is, running-is, rest-set_alone, rest-enabled_alone}

-- one failure more keeps the moments in order, and none of them is later: a law of `lg_retry`
abbrev pub KeepsOrder : Type 0
KeepsOrder = (history : History) (now : Moment) (policy : Policy)
    → DoNotFall history.moments
    → All (λ moment. moment.0 ≤ now.0) history.moments
    → DoNotFall (add_failure history now policy).moments × All (λ moment. moment.0 ≤ now.0) (add_failure history now policy).moments

first-added : (now : Moment) (first : Option Moment) → NotLater first now → NotLater (Some (unwrap_or first now)) now
first-added now None valid = omega arith
first-added now (Some moment) valid = valid

history-added : KeepsOrder → (now : Moment) (policy : Policy) (history : History) → IsValidHistory now history → IsValidHistory now (add_failure history now policy)
history-added keeps now policy history valid =
    let kept = keeps history now policy valid.in_order valid.moments in
    record { first = first-added now history.first valid.first; moments = kept.1; in_order = kept.0 }

pub history-none : (now : Moment) → IsValidHistory now no_failures
history-none now = record {
  first = tt;
  moments = λ k d inside. absurd (omega arith);
  in_order = λ j k d before inside. absurd (omega arith);
}

-- ---- one task

abbrev FitsRetry : ℕ → Moment → Type 0
FitsRetry delay now = now.0 + delay < 2 ^ 63

updated-by : (b : Bool) (updated now : Moment) → updated.0 ≤ now.0 → (cond b updated now).0 ≤ now.0
updated-by true updated now valid = valid
updated-by false updated now valid = omega arith

failed-retried : (status : Status) (moment : Moment) (retry : Option Moment) → status ≡ Failed → IsSome (cond (is_status Failed status) (Some moment) retry)
failed-retried status moment retry failed = ap (λ b. is_some (cond b (Some moment) retry)) (is_status-along Failed status (sym failed))

fits-by : (b : Bool) (one other : Option Moment) → FitsMoment one → FitsMoment other → FitsMoment (cond b one other)
fits-by true one other p q = p
fits-by false one other p q = q

valid-carried : (delay : ℕ) (now : Moment) (was_in_batch : Bool) (status : Status) (task : Task) (disabled_at : Option Moment) (failures : History)
    → is_running status ≡ false → FitsRetry delay now → IsValidTask now task
    → (IsSome disabled_at → status ≡ Disabled) → NotLater disabled_at now → IsValidHistory now failures
    → IsValidTask now (carried_out delay now was_in_batch (record task { disabled_at = disabled_at; failures = failures }, status))
valid-carried delay now was_in_batch status task disabled_at failures stops fits valid disabled not_later remembered =
    let low : now.0 < 2 ^ 63 = omega arith in
    subst (IsValidTask now) (sym (settled-is delay now was_in_batch status (record task { disabled_at = disabled_at; failures = failures }) stops))
    (record {
      params = valid.params;
      deps = valid.deps;
      workers = valid.workers;
      stakeholders = valid.stakeholders;
      worker_running = sym stops;
      time_running = sym stops;
      batch = λ some. absurd (false≢true some);
      in_batch = λ runs. absurd (false≢true (sym stops ∙ ap is_running runs));
      disabled = disabled;
      failed = failed-retried status (record { 0 = now.0 + delay }) task.retry;
      added = valid.added;
      updated = updated-by (is_status status task.status) task.updated now valid.updated;
      running_since = tt;
      disabled_at = not_later;
      failures = remembered;
      policy = valid.policy;
      retry = fits-by (is_status Failed status) (Some (record { 0 = now.0 + delay })) task.retry fits valid.retry;
      remove = fits-by (is_status Failed status) (cond (was_in_batch && not task.batchable) (Some now) task.remove) task.remove
          (fits-by (was_in_batch && not task.batchable) (Some now) task.remove low valid.remove) valid.remove;
    })

-- a task without the mark of the scheduler has none
no_mark : (disabled_at : Option Moment) (status : Status) → is_some disabled_at ≡ false → IsSome disabled_at → status ≡ Disabled
no_mark disabled_at status none some = absurd (false≢true (sym none ∙ some))

valid-judged : KeepsOrder → (delay : ℕ) (now : Moment) (was_in_batch : Bool) (status : Status) (task : Task)
    → is_running status ≡ false → is_held status task ≡ false → FitsRetry delay now → IsValidTask now task
    → IsValidTask now (carried_out delay now was_in_batch (judged_by status now (forgiven_by status task)))
valid-judged keeps delay now was Pending task stops free fits valid =
    valid-carried delay now was Pending task task.disabled_at task.failures refl fits valid (no_mark task.disabled_at Pending free) valid.disabled_at valid.failures
valid-judged keeps delay now was Unknown task stops free fits valid =
    valid-carried delay now was Unknown task task.disabled_at task.failures refl fits valid (no_mark task.disabled_at Unknown free) valid.disabled_at valid.failures
valid-judged keeps delay now was Disabled task stops free fits valid =
    valid-carried delay now was Disabled task None task.failures refl fits valid (λ some. refl) tt valid.failures
valid-judged keeps delay now was Done task stops free fits valid = by_choice (is_status Disabled task.status) refl
  where
    by_choice : (b : Bool) → is_status Disabled task.status ≡ b → IsValidTask now (carried_out delay now was (cond b (forgiven task) task, Done))
    by_choice true e = valid-carried delay now was Done task None no_failures refl fits valid (no_mark None Done refl) tt (history-none now)
    by_choice false e =
        valid-carried delay now was Done task task.disabled_at task.failures refl fits valid
        (λ some. absurd (false≢true (sym e ∙ is_status-along Disabled task.status (sym (valid.disabled some))))) valid.disabled_at valid.failures
valid-judged keeps delay now was Failed task stops free fits valid = by_choice (is_status Disabled task.status)
  where
    failed : Task
    failed = failed_once_more now task

    by_excess : (b : Bool) → IsValidTask now (carried_out delay now was (cond b (record (failed_once_more now task) { disabled_at = Some now }, Disabled) (failed_once_more now task, Failed)))
    by_excess true =
        valid-carried delay now was Disabled task (Some now) (add_failure task.failures now task.policy) refl fits valid (λ some. refl) (omega arith)
        (history-added keeps now task.policy task.failures valid.failures)
    by_excess false =
        valid-carried delay now was Failed task task.disabled_at (add_failure task.failures now task.policy) refl fits valid (no_mark task.disabled_at Failed free) valid.disabled_at
        (history-added keeps now task.policy task.failures valid.failures)

    by_choice : (b : Bool) → IsValidTask now (carried_out delay now was (cond b (task, Failed) (judged now (failed_once_more now task))))
    by_choice true = valid-carried delay now was Failed task task.disabled_at task.failures refl fits valid (no_mark task.disabled_at Failed free) valid.disabled_at valid.failures
    by_choice false = by_excess (is_excessive (failed_once_more now task).failures now task.policy)
valid-judged keeps delay now was Running task stops free fits valid = absurd (false≢true (sym stops))
valid-judged keeps delay now was BatchRunning task stops free fits valid = absurd (false≢true (sym stops))

-- a task that is set to a status in which it doesn't run stays valid
pub valid-set_alone : KeepsOrder → (delay : ℕ) (now : Moment) (status : Status) (task : Task)
    → is_running status ≡ false → FitsRetry delay now → IsValidTask now task → IsValidTask now (set_alone delay now status task)
valid-set_alone keeps delay now status task stops fits valid = by_held (is_held status task) refl
  where
    by_held : (held : Bool) → is_held status task ≡ held → IsValidTask now (set_alone delay now status task)
    by_held true e = subst (IsValidTask now) (sym (set_alone-held delay now status task e)) valid
    by_held false e = subst (IsValidTask now) (sym (set_alone-free delay now status task e)) (valid-judged keeps delay now (is_some task.batch) status task stops e fits valid)

valid-forgiven : (now : Moment) (task : Task) → IsValidTask now task → IsValidTask now (forgiven task)
valid-forgiven now task valid = record {
  params = valid.params;
  deps = valid.deps;
  workers = valid.workers;
  stakeholders = valid.stakeholders;
  worker_running = valid.worker_running;
  time_running = valid.time_running;
  batch = valid.batch;
  in_batch = valid.in_batch;
  disabled = λ some. absurd (false≢true some);
  failed = valid.failed;
  added = valid.added;
  updated = valid.updated;
  running_since = valid.running_since;
  disabled_at = tt;
  failures = history-none now;
  policy = valid.policy;
  retry = valid.retry;
  remove = valid.remove;
}

pub valid-enabled_alone : KeepsOrder → (delay : ℕ) (now : Moment) (task : Task) → FitsRetry delay now → IsValidTask now task → IsValidTask now (enabled_alone delay now task)
valid-enabled_alone keeps delay now task fits valid = valid-set_alone keeps delay now Failed (forgiven task) refl fits (valid-forgiven now task valid)

-- ---- a task that runs

-- the scheduler disabled no task that runs
pub unmarked : (now : Moment) (task : Task) → is_running task.status ≡ true → IsValidTask now task → is_some task.disabled_at ≡ false
unmarked now task runs valid = by_mark (is_some task.disabled_at) refl
  where
    by_mark : (b : Bool) → is_some task.disabled_at ≡ b → b ≡ false
    by_mark true e = absurd (false≢true (sym (ap is_running (valid.disabled e)) ∙ runs))
    by_mark false e = refl

valid-begun : (delay : ℕ) (now : Moment) (status : Status) (task : Task) → is_running status ≡ true → is_held status task ≡ false → is_some task.disabled_at ≡ false → IsValidTask now task
    → (worker : List ℕ) (batch : Option (List ℕ)) → (status ≡ BatchRunning → IsSome batch)
    → IsValidTask now (run_by worker now batch (set_alone delay now status task))
valid-begun delay now status task runs free none valid worker batch in_batch =
    subst (λ t. IsValidTask now (run_by worker now batch t)) (sym (running-is delay now status task runs free))
    (record {
      params = valid.params;
      deps = valid.deps;
      workers = valid.workers;
      stakeholders = valid.stakeholders;
      worker_running = sym runs;
      time_running = sym runs;
      batch = λ some. runs;
      in_batch = in_batch;
      disabled = λ some. absurd (false≢true (sym none ∙ some));
      failed = λ failed. absurd (false≢true (sym (ap is_running failed) ∙ runs));
      added = valid.added;
      updated = updated-by (is_status status task.status) task.updated now valid.updated;
      running_since = omega arith;
      disabled_at = valid.disabled_at;
      failures = valid.failures;
      policy = valid.policy;
      retry = valid.retry;
      remove = valid.remove;
    })

-- a task that begins to run, once its worker and its moment are set
pub valid-run_by : (delay : ℕ) (now : Moment) (status : Status) (task : Task) → is_running status ≡ true → is_held status task ≡ false → IsValidTask now task
    → (worker : List ℕ) (batch : Option (List ℕ)) → (status ≡ BatchRunning → IsSome batch)
    → IsValidTask now (run_by worker now batch (set_alone delay now status task))
valid-run_by delay now Running task runs free valid = valid-begun delay now Running task runs free free valid
valid-run_by delay now BatchRunning task runs free valid = valid-begun delay now BatchRunning task runs free free valid
valid-run_by delay now Pending task runs free valid = absurd (false≢true runs)
valid-run_by delay now Done task runs free valid = absurd (false≢true runs)
valid-run_by delay now Failed task runs free valid = absurd (false≢true runs)
valid-run_by delay now Disabled task runs free valid = absurd (false≢true runs)
valid-run_by delay now Unknown task runs free valid = absurd (false≢true runs)

pub runs_on : (delay : ℕ) (now : Moment) (task : Task) → is_running task.status ≡ true → IsValidTask now task → RunsOn task (set_alone delay now Running task)
runs_on delay now task runs valid =
    let same = running-is delay now Running task refl (unmarked now task runs valid) in
    record {
      worker = ap (λ (t : Task). t.worker_running) same;
      since = ap (λ (t : Task). t.time_running) same;
      batch = ap (λ (t : Task). t.batch) same;
    }

pub valid-runs_on : (delay : ℕ) (now : Moment) (task : Task) → is_running task.status ≡ true → IsValidTask now task → IsValidTask now (set_alone delay now Running task)
valid-runs_on delay now task runs valid =
    let none = unmarked now task runs valid in
    subst (IsValidTask now) (sym (running-is delay now Running task refl none))
    (record {
      params = valid.params;
      deps = valid.deps;
      workers = valid.workers;
      stakeholders = valid.stakeholders;
      worker_running = valid.worker_running ∙ runs;
      time_running = valid.time_running ∙ runs;
      batch = λ some. refl;
      in_batch = λ apart. absurd (running≢batch_running apart);
      disabled = λ some. absurd (false≢true (sym none ∙ some));
      failed = λ failed. absurd (running≢failed failed);
      added = valid.added;
      updated = updated-by (is_status Running task.status) task.updated now valid.updated;
      running_since = valid.running_since;
      disabled_at = valid.disabled_at;
      failures = valid.failures;
      policy = valid.policy;
      retry = valid.retry;
      remove = valid.remove;
    })
  where
    running≢batch_running : Running ≡ BatchRunning → ⊥
    running≢batch_running e = cc

    running≢failed : Running ≡ Failed → ⊥
    running≢failed e = cc

-- ---- the state

valid-tasks : (s : State) (meant : Task → Bool) (change : Task → Task)
    → ((task : Task) → rest_of (change task) ≡ rest_of task) → ((task : Task) → IsValidTask s.moment task → IsValidTask s.moment (change task))
    → IsValidState s → IsValidState (record s { tasks = change_meant meant change s.tasks })
valid-tasks s meant change keeps_rest keeps_valid valid =
    let long : length (change_meant meant change s.tasks) ≡ length s.tasks = length-map s.tasks (λ task. cond (meant task) (change task) task) in
    let number : (task : Task) → (change task).number ≡ task.number = λ task. ap (λ (t : Task). t.number) (keeps_rest task) in
    record {
      moment_in_range = valid.moment_in_range;
      pruned_before = valid.pruned_before;
      next_in_range = valid.next_in_range;
      settings_in_range = valid.settings_in_range;
      few_tasks = omega (arith, long, valid.few_tasks);
      ids_differ = subst (λ ids. IsTrue (are_distinct ids)) (sym (map-change_meant (λ (t : Task). t.id) meant change (λ task. ap (λ (t : Task). t.id) (keeps_rest task)) s.tasks)) valid.ids_differ;
      numbers_rise = ap (all_pairs nat_lt) (map-change_meant (λ (t : Task). t.number) meant change number s.tasks) ∙ valid.numbers_rise;
      numbers_below_next = All-change_meant (λ task. task.number < s.next) meant change (λ task below. subst (λ n. n < s.next) (sym (number task)) below) s.tasks valid.numbers_below_next;
      tasks = All-change_meant (IsValidTask s.moment) meant change keeps_valid s.tasks valid.tasks;
      workers_in_order = valid.workers_in_order;
      workers = valid.workers;
      batchers_in_order = valid.batchers_in_order;
      batchers = valid.batchers;
    }

retry_fits : (s : State) → IsValidState s → FitsRetry s.settings.retry_delay s.moment
retry_fits s valid = omega (arith, valid.moment_in_range, valid.settings_in_range.retry_delay)

pub valid-set_status : KeepsOrder → (s : State) (id : List ℕ) (status : Status) → is_running status ≡ false → IsValidState s → IsValidState (set_status s id status)
valid-set_status keeps s id status stops valid =
    valid-tasks s (is_meant id (along_with status id s.tasks)) (set_alone s.settings.retry_delay s.moment status)
    (rest-set_alone s.settings.retry_delay s.moment status)
    (λ task. valid-set_alone keeps s.settings.retry_delay s.moment status task stops (retry_fits s valid)) valid

pub valid-enable : KeepsOrder → (s : State) (id : List ℕ) → IsValidState s → IsValidState (enable s id)
valid-enable keeps s id valid =
    valid-tasks s (has_id id) (enabled_alone s.settings.retry_delay s.moment)
    (rest-enabled_alone s.settings.retry_delay s.moment)
    (λ task. valid-enabled_alone keeps s.settings.retry_delay s.moment task (retry_fits s valid)) valid

-- an answer of a call that leaves the state valid, whichever it is
pub valid-answer : (r : Result (Unit {0}) NoMemory) (old new changed : State) → OnOk r (new ≡ changed) → OnErr r (new ≡ old) → IsValidState changed → IsValidState old → IsValidState new
valid-answer (Ok u) old new changed ok err behind before = subst IsValidState (sym ok) behind
valid-answer (Err e) old new changed ok err behind before = subst IsValidState (sym err) before
