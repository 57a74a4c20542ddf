-- What the change of status leaves of a task, and that it keeps a task valid.
use Rattle.std.proofs.Common.{◌≡◌, ℕ, ◌+◌, Bool, true, false, cond, is_some, Option, Some, None, refl, sym, ap, ◌∙◌}
use Rattle.std.proofs.lemmas.Bool.{false≢true}
use Rattle.lg_base.specs.declared.moment.Moment.{Moment}
use Rattle.lg_retry.specs.Failures.{is_excessive}
use Rattle.lg_calls.specs.declared.status.Status.{Status}
use Rattle.lg_calls.specs.declared.status.Status.TheVariants.{Pending, Running, BatchRunning, Done, Failed, Disabled, Unknown}
use Rattle.lg_calls.specs.Status.{Verdict, is_status, is_held, forgiven, forgiven_by, failed_once_more, judged, judged_by, turned, at_rest, rested, removal, retried, carried_out, set_alone, enabled_alone}
use Rattle.lg_calls.specs.Task.{Task}
use Rattle.lg_calls.specs.Valid.{is_running}
use Rattle.lg_plain.specs.Laws.{rest_of}
use Rattle.lg_plain.proofs.RuleLemmas.{set_alone-held, set_alone-free}

-- ---- statuses

pub is_status-itself : (status : Status) → is_status status status ≡ true
is_status-itself Pending = refl
is_status-itself Running = refl
is_status-itself BatchRunning = refl
is_status-itself Done = refl
is_status-itself Failed = refl
is_status-itself Disabled = refl
is_status-itself Unknown = refl

pub is_status-along : (one other : Status) → one ≡ other → is_status one other ≡ true
is_status-along one other e = ap (is_status one) (sym e) ∙ is_status-itself one

pub is_status-is : (one other : Status) → is_status one other ≡ true → one ≡ other
is_status-is Pending Pending e = refl
is_status-is Running Running e = refl
is_status-is BatchRunning BatchRunning e = refl
is_status-is Done Done e = refl
is_status-is Failed Failed e = refl
is_status-is Disabled Disabled e = refl
is_status-is Unknown Unknown e = refl
is_status-is _ _ e = cc

pub absent : {X : Type 0} (o : Option X) → is_some o ≡ false → o ≡ None
absent None e = refl
absent (Some x) e = cc

-- ---- what a change leaves

rest-cond : (b : Bool) (one other : Task) (rest : Task) → rest_of one ≡ rest → rest_of other ≡ rest → rest_of (cond b one other) ≡ rest
rest-cond true one other rest p q = p
rest-cond false one other rest p q = q

rest-forgiven_by : (status : Status) (task : Task) → rest_of (forgiven_by status task) ≡ rest_of task
rest-forgiven_by Pending task = refl
rest-forgiven_by Running task = refl
rest-forgiven_by BatchRunning task = refl
rest-forgiven_by Done task = rest-cond (is_status Disabled task.status) (forgiven task) task (rest_of task) refl refl
rest-forgiven_by Failed task = refl
rest-forgiven_by Disabled task = refl
rest-forgiven_by Unknown task = refl

rest-verdict : (b : Bool) (one other : Verdict) (rest : Task) → rest_of one.0 ≡ rest → rest_of other.0 ≡ rest → rest_of (cond b one other).0 ≡ rest
rest-verdict true one other rest p q = p
rest-verdict false one other rest p q = q

rest-judged_by : (status : Status) (now : Moment) (task : Task) → rest_of (judged_by status now task).0 ≡ rest_of task
rest-judged_by Pending now task = refl
rest-judged_by Running now task = refl
rest-judged_by BatchRunning now task = refl
rest-judged_by Done now task = refl
rest-judged_by Failed now task =
    let failed = failed_once_more now task in
    rest-verdict (is_status Disabled task.status) (task, Failed) (judged now failed) (rest_of task) refl
    (rest-verdict (is_excessive failed.failures now failed.policy) (record failed { disabled_at = Some now }, Disabled) (failed, Failed) (rest_of task) refl refl)
rest-judged_by Disabled now task = refl
rest-judged_by Unknown now task = refl

rest-carried_out : (delay : ℕ) (now : Moment) (was_in_batch : Bool) (verdict : Verdict) → rest_of (carried_out delay now was_in_batch verdict) ≡ rest_of verdict.0
rest-carried_out delay now was_in_batch verdict =
    let turn = turned verdict.1 now verdict.0 in
    let rest = rested turn in
    rest-cond (is_status Failed rest.status) (record rest { retry = Some (record { 0 = now.0 + delay }); remove = removal now was_in_batch rest }) rest (rest_of rest) refl refl
    ∙ rest-cond (is_running turn.status) turn (at_rest turn) (rest_of turn) refl refl
    ∙ rest-cond (is_status verdict.1 verdict.0.status) verdict.0 (record verdict.0 { status = verdict.1; updated = now }) (rest_of verdict.0) refl refl

-- a change leaves what it isn't about
pub rest-set_alone : (delay : ℕ) (now : Moment) (status : Status) (task : Task) → rest_of (set_alone delay now status task) ≡ rest_of task
rest-set_alone delay now status task = by_held (is_held status task) refl
  where
    by_held : (held : Bool) → is_held status task ≡ held → rest_of (set_alone delay now status task) ≡ rest_of task
    by_held true e = ap rest_of (set_alone-held delay now status task e)
    by_held false e =
        ap rest_of (set_alone-free delay now status task e)
        ∙ rest-carried_out delay now (is_some task.batch) (judged_by status now (forgiven_by status task))
        ∙ rest-judged_by status now (forgiven_by status task)
        ∙ rest-forgiven_by status task

pub rest-enabled_alone : (delay : ℕ) (now : Moment) (task : Task) → rest_of (enabled_alone delay now task) ≡ rest_of task
rest-enabled_alone delay now task = rest-set_alone delay now Failed (forgiven task)

-- ---- where a task comes to rest

turned-is : (status : Status) (now : Moment) (task : Task) → turned status now task ≡ record task { status = status; updated = cond (is_status status task.status) task.updated now }
turned-is status now task = by_choice (is_status status task.status) refl
  where
    by_choice : (b : Bool) → is_status status task.status ≡ b → cond b task (record task { status = status; updated = now }) ≡ record task { status = status; updated = cond b task.updated now }
    by_choice true e = ap (λ (s : Status). record task { status = s }) (sym (is_status-is status task.status e))
    by_choice false e = refl

retried-is : (delay : ℕ) (now : Moment) (was_in_batch : Bool) (task : Task)
    → retried delay now was_in_batch task
    ≡ record task { retry = cond (is_status Failed task.status) (Some (record { 0 = now.0 + delay })) task.retry; remove = cond (is_status Failed task.status) (removal now was_in_batch task) task.remove }
retried-is delay now was_in_batch task = by_choice (is_status Failed task.status)
  where
    by_choice : (b : Bool)
        → cond b (record task { retry = Some (record { 0 = now.0 + delay }); remove = removal now was_in_batch task }) task
        ≡ record task { retry = cond b (Some (record { 0 = now.0 + delay })) task.retry; remove = cond b (removal now was_in_batch task) task.remove }
    by_choice true = refl
    by_choice false = refl

-- a task that doesn't run behind its change
abbrev pub settled : ℕ → Moment → Bool → Status → Task → Task
settled delay now was_in_batch status task = record task {
  status = status;
  updated = cond (is_status status task.status) task.updated now;
  worker_running = None;
  time_running = None;
  batch = None;
  retry = cond (is_status Failed status) (Some (record { 0 = now.0 + delay })) task.retry;
  remove = cond (is_status Failed status) (removal now was_in_batch task) task.remove;
}

pub settled-is : (delay : ℕ) (now : Moment) (was_in_batch : Bool) (status : Status) (task : Task) → is_running status ≡ false
    → carried_out delay now was_in_batch (task, status) ≡ settled delay now was_in_batch status task
settled-is delay now was_in_batch status task stops =
    let turn : Task = record task { status = status; updated = cond (is_status status task.status) task.updated now } in
    ap (λ t. retried delay now was_in_batch (rested t)) (turned-is status now task)
    ∙ ap (λ b. retried delay now was_in_batch (cond b turn (at_rest turn))) stops
    ∙ retried-is delay now was_in_batch (at_rest turn)

-- a task that runs behind its change
pub running-is : (delay : ℕ) (now : Moment) (status : Status) (task : Task) → is_running status ≡ true → is_held status task ≡ false
    → set_alone delay now status task ≡ record task { status = status; updated = cond (is_status status task.status) task.updated now }
running-is delay now Running task runs free = set_alone-free delay now Running task free ∙ ap (λ t. retried delay now (is_some task.batch) (rested t)) (turned-is Running now task)
running-is delay now BatchRunning task runs free = set_alone-free delay now BatchRunning task free ∙ ap (λ t. retried delay now (is_some task.batch) (rested t)) (turned-is BatchRunning now task)
running-is delay now Pending task runs free = absurd (false≢true runs)
running-is delay now Done task runs free = absurd (false≢true runs)
running-is delay now Failed task runs free = absurd (false≢true runs)
running-is delay now Disabled task runs free = absurd (false≢true runs)
running-is delay now Unknown task runs free = absurd (false≢true runs)
