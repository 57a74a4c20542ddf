-- What `add_task` changes of a task keeps it valid.
use Rattle.std.proofs.Common.{◌≡◌, ℕ, ◌^◌, ◌<◌, ℤ, Bool, true, false, cond, ◌&&◌, IsTrue, T, Option, Some, None, unwrap_or, List, [], ◌∷◌, refl, sym, ap, subst, ◌∙◌, arith}
use Rattle.std.specs.Option.{option_map, option_map_or}
use Rattle.std.proofs.lemmas.Bool.{false≢true, leb-true}
use Rattle.lg_base.specs.declared.moment.Moment.{Moment}
use Rattle.lg_base.specs.Amounts.{AmountsByName}
use Rattle.lg_base.specs.Names.{AreInOrder}
use Rattle.lg_retry.specs.declared.policy.Policy.{Policy}
use Rattle.lg_calls.specs.declared.methods.add_task.AddTask.{AddTask}
use Rattle.lg_calls.specs.declared.retry_policy.RetryPolicy.{RetryPolicy}
use Rattle.lg_calls.specs.declared.settings.Settings.{Settings}
use Rattle.lg_calls.specs.declared.state.State.{State}
use Rattle.lg_calls.specs.declared.status.Status.{Status}
use Rattle.lg_calls.specs.declared.status.Status.TheVariants.{BatchRunning, Failed, Running}
use Rattle.lg_calls.specs.Methods.AddTask.{add_task_in_range, are_in_order}
use Rattle.lg_calls.specs.Order.{are_sorted, are_distinct}
use Rattle.lg_calls.specs.RetryEntries.{is_entry, is_policy, max_entry}
use Rattle.lg_calls.specs.Settings.{AreInRange, seconds, policy_of}
use Rattle.lg_calls.specs.Status.{is_status, is_held, set_alone}
use Rattle.lg_calls.specs.Task.{Task}
use Rattle.lg_calls.specs.Valid.{is_running, FitsMoment, IsValidPolicy, IsValidTask}
use Rattle.lg_calls.specs.Running.{run_by}
use Rattle.lg_calls.specs.AddTask.Describing.{filled, filled_list, replaced, told}
use Rattle.lg_calls.specs.AddTask.Making.{new_task}
use Rattle.lg_calls.specs.AddTask.Offering.{as_urgent, policy_with, runnable_by, with_policy}
use Rattle.lg_calls.specs.AddTask.Reporting.{run_begun, with_deps, with_ids, with_resources}
use Rattle.lg_calls.specs.AddTask.Wanting.{wanted_by}
use Rattle.lg_plain.proofs.OrderedLemmas.{sorted-replace, sorted-with_ids, distinct-with_worker}
use Rattle.lg_plain.proofs.PathLemmas.{and-first, and-second}
use Rattle.lg_plain.proofs.RuleLemmas.{set_alone-held}
use Rattle.lg_plain.proofs.StatusLemmas.{is_status-is, running-is}
use Rattle.lg_plain.proofs.ValidityLemmas.{history-none, unmarked, valid-run_by}

-- ---- how a task runs, and what is said of it

-- one task with the run of another: its status, its moments and its failures
abbrev with_run : Task → Task → Task
with_run run task = record task {
  status = run.status;
  added = run.added;
  updated = run.updated;
  worker_running = run.worker_running;
  time_running = run.time_running;
  batch = run.batch;
  failures = run.failures;
  retry = run.retry;
  disabled_at = run.disabled_at;
}

-- what is said of a task is in order
record IsWellSaid (task : Task) : Type 0 where
  params : AreInOrder task.params
  deps : IsTrue (are_sorted task.deps)
  workers : IsTrue (are_distinct task.workers)
  stakeholders : IsTrue (are_sorted task.stakeholders)
  policy : IsValidPolicy task.policy
  remove : FitsMoment task.remove

valid-with_run : (now : Moment) (run task : Task) → IsValidTask now run → IsWellSaid task → IsValidTask now (with_run run task)
valid-with_run now run task valid said = record {
  params = said.params;
  deps = said.deps;
  workers = said.workers;
  stakeholders = said.stakeholders;
  worker_running = valid.worker_running;
  time_running = valid.time_running;
  batch = valid.batch;
  in_batch = valid.in_batch;
  disabled = valid.disabled;
  failed = valid.failed;
  added = valid.added;
  updated = valid.updated;
  running_since = valid.running_since;
  disabled_at = valid.disabled_at;
  failures = valid.failures;
  policy = said.policy;
  retry = valid.retry;
  remove = said.remove;
}

-- ---- what a call says

pub ask-params : (ask : AddTask) → IsTrue (add_task_in_range ask) → AreInOrder ask.params
ask-params ask in_range = subst T (sym (and-first (are_in_order ask.params) (is_policy ask.retry_policy) in_range)) tt

params-filled : (known given : List (List ℕ × List ℕ)) → AreInOrder known → AreInOrder given → AreInOrder (filled_list known given)
params-filled [] given here there = there
params-filled (x ∷ known) given here there = here

count-said : (said : Option ℕ) (known : ℕ) → is_entry said ≡ true → known < 2 ^ 63 → unwrap_or said known < 2 ^ 63
count-said None known e low = low
count-said (Some n) known e low = omega (arith, leb-true n max_entry e)

time-said : (said : Option ℕ) (known : ℕ) → is_entry said ≡ true → known < 2 ^ 63 → unwrap_or (option_map seconds said) known < 2 ^ 63
time-said None known e low = low
time-said (Some n) known e low = omega (arith, leb-true n max_entry e)

pub policy-settings : (s : Settings) → AreInRange s → IsValidPolicy (policy_of s)
policy-settings s fit = record {
  retry_count = omega (arith, fit.retry_count);
  disable_window = omega (arith, fit.disable_window);
  disable_hard_timeout = omega (arith, fit.disable_hard_timeout);
}

pub policy-said : (said : RetryPolicy) (policy : Policy) → is_policy said ≡ true → IsValidPolicy policy → IsValidPolicy (policy_with said policy)
policy-said said policy in_range valid =
    let first = and-first (is_entry said.retry_count && is_entry said.disable_hard_timeout) (is_entry said.disable_window) in_range in
    let window = and-second (is_entry said.retry_count && is_entry said.disable_hard_timeout) (is_entry said.disable_window) in_range in
    let count = and-first (is_entry said.retry_count) (is_entry said.disable_hard_timeout) first in
    let timeout = and-second (is_entry said.retry_count) (is_entry said.disable_hard_timeout) first in
    record {
      retry_count = count-said said.retry_count policy.retry_count count valid.retry_count;
      disable_window = time-said said.disable_window policy.disable_window window valid.disable_window;
      disable_hard_timeout = time-said said.disable_hard_timeout policy.disable_hard_timeout timeout valid.disable_hard_timeout;
    }

pub ask-policy : (ask : AddTask) → IsTrue (add_task_in_range ask) → is_policy ask.retry_policy ≡ true
ask-policy ask in_range = and-second (are_in_order ask.params) (is_policy ask.retry_policy) in_range

-- ---- the changes of what is said

module _ (now : Moment) (task : Task) (valid : IsValidTask now task) where
  pub valid-filled : (ask : AddTask) → IsTrue (add_task_in_range ask) → IsValidTask now (filled ask task)
  valid-filled ask in_range = valid-with_run now task (filled ask task) valid (record {
    params = params-filled task.params ask.params valid.params (ask-params ask in_range);
    deps = valid.deps;
    workers = valid.workers;
    stakeholders = valid.stakeholders;
    policy = valid.policy;
    remove = valid.remove;
  })

  pub valid-told : (ask : AddTask) (replaces : Bool) → IsValidTask now (told ask replaces task)
  valid-told ask replaces = valid-with_run now task (told ask replaces task) valid (record {
    params = valid.params;
    deps = valid.deps;
    workers = valid.workers;
    stakeholders = valid.stakeholders;
    policy = valid.policy;
    remove = valid.remove;
  })

  pub valid-replaced : (ask : AddTask) → IsValidTask now (replaced ask task)
  valid-replaced ask = valid-with_run now task (replaced ask task) valid (record {
    params = valid.params;
    deps = valid.deps;
    workers = valid.workers;
    stakeholders = valid.stakeholders;
    policy = valid.policy;
    remove = tt;
  })

  sorted-given : (given : Option (List (List ℕ))) → IsTrue (are_sorted (option_map_or (with_ids []) given task.deps))
  sorted-given None = valid.deps
  sorted-given (Some ids) = sorted-with_ids [] ids refl

  pub valid-with_deps : (ask : AddTask) → IsValidTask now (with_deps ask task)
  valid-with_deps ask = valid-with_run now task (with_deps ask task) valid (record {
    params = valid.params;
    deps = sorted-with_ids (option_map_or (with_ids []) ask.deps task.deps) ask.new_deps (sorted-given ask.deps);
    workers = valid.workers;
    stakeholders = valid.stakeholders;
    policy = valid.policy;
    remove = valid.remove;
  })

  pub valid-with_resources : (resources : AmountsByName) → IsValidTask now (with_resources resources task)
  valid-with_resources resources = valid-with_run now task (with_resources resources task) valid (record {
    params = valid.params;
    deps = valid.deps;
    workers = valid.workers;
    stakeholders = valid.stakeholders;
    policy = valid.policy;
    remove = valid.remove;
  })

  pub valid-wanted_by : (worker : List ℕ) → IsValidTask now (wanted_by worker task)
  valid-wanted_by worker = valid-with_run now task (wanted_by worker task) valid (record {
    params = valid.params;
    deps = valid.deps;
    workers = valid.workers;
    stakeholders = sorted-replace task.stakeholders worker valid.stakeholders;
    policy = valid.policy;
    remove = valid.remove;
  })

  pub valid-as_urgent : (ask : AddTask) → IsValidTask now (as_urgent ask task)
  valid-as_urgent ask = valid-with_run now task (as_urgent ask task) valid (record {
    params = valid.params;
    deps = valid.deps;
    workers = valid.workers;
    stakeholders = valid.stakeholders;
    policy = valid.policy;
    remove = valid.remove;
  })

  pub valid-with_policy : (policy : Policy) → IsValidPolicy policy → IsValidTask now (with_policy policy task)
  valid-with_policy policy fits = valid-with_run now task (with_policy policy task) valid (record {
    params = valid.params;
    deps = valid.deps;
    workers = valid.workers;
    stakeholders = valid.stakeholders;
    policy = fits;
    remove = valid.remove;
  })

  pub valid-runnable_by : (worker : List ℕ) → IsValidTask now (runnable_by worker task)
  valid-runnable_by worker = valid-with_run now task (runnable_by worker task) valid (record {
    params = valid.params;
    deps = valid.deps;
    workers = distinct-with_worker worker task.workers valid.workers;
    stakeholders = valid.stakeholders;
    policy = valid.policy;
    remove = valid.remove;
  })

-- ---- a task that is made

pub valid-new_task : (s : State) (status : Status) (priority : ℤ) (id : List ℕ) → AreInRange s.settings → is_running status ≡ false → (status ≡ Failed → ⊥)
    → IsValidTask s.moment (new_task status priority id s)
valid-new_task s status priority id fit stops hale = record {
  params = tt;
  deps = refl;
  workers = refl;
  stakeholders = refl;
  worker_running = sym stops;
  time_running = sym stops;
  batch = λ some. absurd (false≢true some);
  in_batch = λ runs. absurd (false≢true (sym stops ∙ ap is_running runs));
  disabled = λ some. absurd (false≢true some);
  failed = λ failed. absurd (hale failed);
  added = omega arith;
  updated = omega arith;
  running_since = tt;
  disabled_at = tt;
  failures = history-none s.moment;
  policy = policy-settings s.settings fit;
  retry = tt;
  remove = tt;
}

-- ---- a task that is RUNNING is run by the worker of the call

running≢batch_running : Running ≡ BatchRunning → ⊥
running≢batch_running e = cc

-- to set a task that is RUNNING to RUNNING changes nothing
set-running : (delay : ℕ) (now : Moment) (task : Task) → IsValidTask now task → is_status Running task.status ≡ true → set_alone delay now Running task ≡ task
set-running delay now task valid runs =
    let same = is_status-is Running task.status runs in
    let since = ap (λ b. cond b task.updated now) runs in
    running-is delay now Running task refl (unmarked now task (sym (ap is_running same)) valid) ∙ (λ i. record task { status = same i; updated = since i })

valid-run : (now : Moment) (task : Task) (worker : List ℕ) (batch : Option (List ℕ)) → IsValidTask now task → is_status Running task.status ≡ true
    → IsValidTask now (run_by worker now batch task)
valid-run now task worker batch valid runs =
    let same = is_status-is Running task.status runs in
    subst (λ t. IsValidTask now (run_by worker now batch t)) (set-running 0 now task valid runs)
    (valid-run_by 0 now Running task refl (unmarked now task (sym (ap is_running same)) valid) valid worker batch (λ e. absurd (running≢batch_running e)))

pub valid-begun : (ask : AddTask) (now : Moment) (task : Task) → IsValidTask now task → IsValidTask now (run_begun ask now task)
valid-begun ask now task valid = by_status (is_status Running task.status) refl
  where
    by_status : (b : Bool) → is_status Running task.status ≡ b → IsValidTask now (cond b (run_by ask.worker now ask.batch_id task) task)
    by_status true runs = valid-run now task ask.worker ask.batch_id valid runs
    by_status false stays = valid

-- a task that is set to RUNNING lacks its worker until it begins to run
pub valid-set_begun : (ask : AddTask) (delay : ℕ) (now : Moment) (task : Task) → IsValidTask now task → IsValidTask now (run_begun ask now (set_alone delay now Running task))
valid-set_begun ask delay now task valid = by_held (is_held Running task) refl
  where
    by_held : (held : Bool) → is_held Running task ≡ held → IsValidTask now (run_begun ask now (set_alone delay now Running task))
    by_held true held = subst (λ t. IsValidTask now (run_begun ask now t)) (sym (set_alone-held delay now Running task held)) (valid-begun ask now task valid)
    by_held false free =
        let behind = set_alone delay now Running task in
        let runs = ap (λ (t : Task). is_status Running t.status) (running-is delay now Running task refl free) in
        subst (λ b. IsValidTask now (cond b (run_by ask.worker now ask.batch_id behind) behind)) (sym runs)
        (valid-run_by delay now Running task refl free valid ask.worker ask.batch_id (λ e. absurd (running≢batch_running e)))
