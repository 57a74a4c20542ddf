-- A state passes exactly where it is valid.
use Rattle.std.proofs.Common.{◌≡◌, ℕ, zero, suc, ◌<◌, ◌≤◌, ◌^◌, Bool, true, false, not, ◌&&◌, T, List, [], ◌∷◌, map, Option, Some, None, is_some, Result, Ok, Err, refl, sym, ap, ◌∙◌, arith, lt-ltb, le-leb, true≢false}
use Rattle.std.specs.Prelude.{All, IfSome, IfOk, nat_lt}
use Rattle.std.specs.List.{list_all}
use Rattle.std.proofs.lemmas.Bool.{ltb-true, leb-true, not-true}
use Rattle.std.proofs.lemmas.List.Elements.{All-head, All-tail, All-cons, All-nil}
use Rattle.lg_base.specs.declared.moment.Moment.{Moment}
use Rattle.lg_base.specs.Names.{AreInOrder}
use Rattle.lg_calls.specs.declared.settings.Settings.{Settings}
use Rattle.lg_calls.specs.declared.state.State.{State}
use Rattle.lg_calls.specs.declared.status.Status.{Status}
use Rattle.lg_calls.specs.declared.status.Status.TheVariants.{Pending, Running, BatchRunning, Done, Failed, Disabled, Unknown}
use Rattle.lg_calls.specs.declared.worker.WorkerRec.{WorkerRec}
use Rattle.lg_calls.specs.Order.{is_before, all_pairs, are_distinct}
use Rattle.lg_calls.specs.Settings.{AreInRange}
use Rattle.lg_calls.specs.Task.{Task}
use Rattle.lg_calls.specs.Tasks.{ids_of}
use Rattle.lg_calls.specs.Valid.{is_running, NotLater, FitsMoment, IsValidHistory, IsValidPolicy, IsValidTask, IsValidWorker, IsValidBatcher, IsValidState}
use Rattle.lg_retry.specs.declared.policy.Policy.{Policy}
use Rattle.lg_retry.specs.Failures.{DoNotFall}
use Rattle.lg_snapshot.specs.Validity.{is_not_later, fits, fits_moment, rests, runs, suits, policy_fits, does_not_fall, history_passes, name_is_before, task_passes, worker_passes, times_pass, counts_pass, passes_in, outside_passes, passes}
use Rattle.lg_snapshot.proofs.OrderLemmas.{both, first_of, second_of, pairs_rise}

false_from : (b : Bool) → (b ≡ true → ⊥) → b ≡ false
false_from true isnt = absurd (isnt refl)
false_from false isnt = refl

not_from : (b : Bool) → b ≡ false → not b ≡ true
not_from b is = ap not is

never : (b : Bool) → b ≡ false → b ≡ true → ⊥
never b is too = true≢false (sym too ∙ is)

T_from : (b : Bool) → b ≡ true → T b
T_from true is = tt
T_from false is = absurd (true≢false (sym is))

from_T : (b : Bool) → T b → b ≡ true
from_T true holds = refl
from_T false holds = absurd holds

-- ---- each element

each_passes : {X : Type 0} (p : X → Bool) (P : X → Type 0) → ((x : X) → p x ≡ true → P x) → (xs : List X) → list_all p xs ≡ true → All P xs
each_passes p P one [] is = All-nil P
each_passes p P one (x ∷ xs) is = All-cons P x xs (one x (first_of _ _ is)) (each_passes p P one xs (second_of _ _ is))

passes_each : {X : Type 0} (p : X → Bool) (P : X → Type 0) → ((x : X) → P x → p x ≡ true) → (xs : List X) → All P xs → list_all p xs ≡ true
passes_each p P one [] all = refl
passes_each p P one (x ∷ xs) all = both _ _ (one x (All-head P x xs all)) (passes_each p P one xs (All-tail P x xs all))

-- ---- moments

not_later_is : (o : Option Moment) (now : Moment) → is_not_later o now ≡ true → NotLater o now
not_later_is None now is = tt
not_later_is (Some when) now is = leb-true _ _ is

not_later_from : (o : Option Moment) (now : Moment) → NotLater o now → is_not_later o now ≡ true
not_later_from None now is = refl
not_later_from (Some when) now is = le-leb _ _ is

fits_is : (o : Option Moment) → fits_moment o ≡ true → FitsMoment o
fits_is None is = tt
fits_is (Some when) is = ltb-true _ _ is

fits_from : (o : Option Moment) → FitsMoment o → fits_moment o ≡ true
fits_from None is = refl
fits_from (Some when) is = lt-ltb _ _ is

-- moments that don't fall, by their places
falls_at : (x : Moment) (xs : List Moment) → All (λ (m : Moment). x.0 ≤ m.0) xs → DoNotFall xs → DoNotFall (x ∷ xs)
falls_at x xs first others zero zero d within below = omega arith
falls_at x xs first others zero (suc j) d within below = first j d (omega arith)
falls_at x xs first others (suc i) zero d within below = absurd (omega arith)
falls_at x xs first others (suc i) (suc j) d within below = others i j d (omega arith) (omega arith)

do_not_fall : (xs : List Moment) → all_pairs does_not_fall xs ≡ true → DoNotFall xs
do_not_fall [] is = λ i j d within below. absurd (omega arith)
do_not_fall (x ∷ xs) is =
    falls_at x xs (each_passes (does_not_fall x) (λ (m : Moment). x.0 ≤ m.0) (λ m is. leb-true _ _ is) xs (first_of _ _ is)) (do_not_fall xs (second_of _ _ is))

fall_from : (xs : List Moment) → DoNotFall xs → all_pairs does_not_fall xs ≡ true
fall_from [] is = refl
fall_from (x ∷ xs) is =
    both _ _ (passes_each (does_not_fall x) (λ (m : Moment). x.0 ≤ m.0) (λ m is. le-leb _ _ is) xs (λ k d below. is 0 (suc k) d (omega arith) (omega arith)))
    (fall_from xs (λ i j d within below. is (suc i) (suc j) d (omega arith) (omega arith)))

history_is : (now : Moment) (task : Task) → history_passes now task ≡ true → IsValidHistory now task.failures
history_is now task is = record {
  first = not_later_is task.failures.first now (first_of _ _ (first_of _ _ is));
  moments = each_passes _ (λ (m : Moment). m.0 ≤ now.0) (λ m is. leb-true _ _ is) task.failures.moments (second_of _ _ (first_of _ _ is));
  in_order = do_not_fall task.failures.moments (second_of _ _ is);
}

history_from : (now : Moment) (task : Task) → IsValidHistory now task.failures → history_passes now task ≡ true
history_from now task ok =
    both _ _ (both _ _ (not_later_from task.failures.first now ok.first) (passes_each _ (λ (m : Moment). m.0 ≤ now.0) (λ m is. le-leb _ _ is) task.failures.moments ok.moments))
    (fall_from task.failures.moments ok.in_order)

policy_is : (policy : Policy) → policy_fits policy ≡ true → IsValidPolicy policy
policy_is policy is = record {
  retry_count = ltb-true _ _ (first_of _ _ (first_of _ _ is));
  disable_window = ltb-true _ _ (second_of _ _ (first_of _ _ is));
  disable_hard_timeout = ltb-true _ _ (second_of _ _ is);
}

policy_from : (policy : Policy) → IsValidPolicy policy → policy_fits policy ≡ true
policy_from policy ok = both _ _ (both _ _ (lt-ltb _ _ ok.retry_count) (lt-ltb _ _ ok.disable_window)) (lt-ltb _ _ ok.disable_hard_timeout)

-- ---- what a status asks for

record StatusFacts (task : Task) : Type 0 where
  worker_running : is_some task.worker_running ≡ is_running task.status
  time_running : is_some task.time_running ≡ is_running task.status
  batch : is_some task.batch ≡ true → is_running task.status ≡ true
  in_batch : task.status ≡ BatchRunning → is_some task.batch ≡ true
  disabled : is_some task.disabled_at ≡ true → task.status ≡ Disabled
  failed : task.status ≡ Failed → is_some task.retry ≡ true

resting : (task : Task) → rests task ≡ true → (is_some task.worker_running ≡ false) × (is_some task.time_running ≡ false) × (is_some task.batch ≡ false)
resting task is = (not-true _ (first_of _ _ (first_of _ _ is)), not-true _ (second_of _ _ (first_of _ _ is)), not-true _ (second_of _ _ is))

rests_from : (task : Task) → is_running task.status ≡ false → StatusFacts task → rests task ≡ true
rests_from task idle facts =
    both _ _ (both _ _ (not_from _ (facts.worker_running ∙ idle)) (not_from _ (facts.time_running ∙ idle)))
    (not_from _ (false_from _ (λ some. never _ idle (facts.batch some))))

runs_from : (task : Task) → is_running task.status ≡ true → StatusFacts task → runs task ≡ true
runs_from task busy facts = both _ _ (facts.worker_running ∙ busy) (facts.time_running ∙ busy)

suits_is : (s : Status) (task : Task) → task.status ≡ s → suits s task ≡ true → StatusFacts task
suits_is Pending task e is =
    let at_rest = resting task (first_of _ _ is) in
    let idle : is_running task.status ≡ false = ap is_running e in
    record {
      worker_running = at_rest.0 ∙ sym idle;
      time_running = at_rest.1 ∙ sym idle;
      batch = λ some. absurd (never _ at_rest.2 some);
      in_batch = λ b. absurd (let wrong : Pending ≡ BatchRunning = sym e ∙ b in cc);
      disabled = λ some. absurd (never _ (not-true _ (second_of _ _ is)) some);
      failed = λ f. absurd (let wrong : Pending ≡ Failed = sym e ∙ f in cc);
    }
suits_is Running task e is =
    let busy : is_running task.status ≡ true = ap is_running e in
    record {
      worker_running = first_of _ _ (first_of _ _ is) ∙ sym busy;
      time_running = second_of _ _ (first_of _ _ is) ∙ sym busy;
      batch = λ some. busy;
      in_batch = λ b. absurd (let wrong : Running ≡ BatchRunning = sym e ∙ b in cc);
      disabled = λ some. absurd (never _ (not-true _ (second_of _ _ is)) some);
      failed = λ f. absurd (let wrong : Running ≡ Failed = sym e ∙ f in cc);
    }
suits_is BatchRunning task e is =
    let busy : is_running task.status ≡ true = ap is_running e in
    record {
      worker_running = first_of _ _ (first_of _ _ (first_of _ _ is)) ∙ sym busy;
      time_running = second_of _ _ (first_of _ _ (first_of _ _ is)) ∙ sym busy;
      batch = λ some. busy;
      in_batch = λ b. second_of _ _ (first_of _ _ is);
      disabled = λ some. absurd (never _ (not-true _ (second_of _ _ is)) some);
      failed = λ f. absurd (let wrong : BatchRunning ≡ Failed = sym e ∙ f in cc);
    }
suits_is Done task e is =
    let at_rest = resting task (first_of _ _ is) in
    let idle : is_running task.status ≡ false = ap is_running e in
    record {
      worker_running = at_rest.0 ∙ sym idle;
      time_running = at_rest.1 ∙ sym idle;
      batch = λ some. absurd (never _ at_rest.2 some);
      in_batch = λ b. absurd (let wrong : Done ≡ BatchRunning = sym e ∙ b in cc);
      disabled = λ some. absurd (never _ (not-true _ (second_of _ _ is)) some);
      failed = λ f. absurd (let wrong : Done ≡ Failed = sym e ∙ f in cc);
    }
suits_is Failed task e is =
    let at_rest = resting task (first_of _ _ (first_of _ _ is)) in
    let idle : is_running task.status ≡ false = ap is_running e in
    record {
      worker_running = at_rest.0 ∙ sym idle;
      time_running = at_rest.1 ∙ sym idle;
      batch = λ some. absurd (never _ at_rest.2 some);
      in_batch = λ b. absurd (let wrong : Failed ≡ BatchRunning = sym e ∙ b in cc);
      disabled = λ some. absurd (never _ (not-true _ (second_of _ _ (first_of _ _ is))) some);
      failed = λ f. second_of _ _ is;
    }
suits_is Disabled task e is =
    let at_rest = resting task is in
    let idle : is_running task.status ≡ false = ap is_running e in
    record {
      worker_running = at_rest.0 ∙ sym idle;
      time_running = at_rest.1 ∙ sym idle;
      batch = λ some. absurd (never _ at_rest.2 some);
      in_batch = λ b. absurd (let wrong : Disabled ≡ BatchRunning = sym e ∙ b in cc);
      disabled = λ some. e;
      failed = λ f. absurd (let wrong : Disabled ≡ Failed = sym e ∙ f in cc);
    }
suits_is Unknown task e is =
    let at_rest = resting task (first_of _ _ is) in
    let idle : is_running task.status ≡ false = ap is_running e in
    record {
      worker_running = at_rest.0 ∙ sym idle;
      time_running = at_rest.1 ∙ sym idle;
      batch = λ some. absurd (never _ at_rest.2 some);
      in_batch = λ b. absurd (let wrong : Unknown ≡ BatchRunning = sym e ∙ b in cc);
      disabled = λ some. absurd (never _ (not-true _ (second_of _ _ is)) some);
      failed = λ f. absurd (let wrong : Unknown ≡ Failed = sym e ∙ f in cc);
    }

suits_from : (s : Status) (task : Task) → task.status ≡ s → StatusFacts task → suits s task ≡ true
suits_from Pending task e facts = both _ _ (rests_from task (ap is_running e) facts) (not_from _ (false_from _ (λ some. let wrong : Pending ≡ Disabled = sym e ∙ facts.disabled some in cc)))
suits_from Running task e facts = both _ _ (runs_from task (ap is_running e) facts) (not_from _ (false_from _ (λ some. let wrong : Running ≡ Disabled = sym e ∙ facts.disabled some in cc)))
suits_from BatchRunning task e facts = both _ _ (both _ _ (runs_from task (ap is_running e) facts) (facts.in_batch e)) (not_from _ (false_from _ (λ some. let wrong : BatchRunning ≡ Disabled = sym e ∙ facts.disabled some in cc)))
suits_from Done task e facts = both _ _ (rests_from task (ap is_running e) facts) (not_from _ (false_from _ (λ some. let wrong : Done ≡ Disabled = sym e ∙ facts.disabled some in cc)))
suits_from Failed task e facts = both _ _ (both _ _ (rests_from task (ap is_running e) facts) (not_from _ (false_from _ (λ some. let wrong : Failed ≡ Disabled = sym e ∙ facts.disabled some in cc)))) (facts.failed e)
suits_from Disabled task e facts = rests_from task (ap is_running e) facts
suits_from Unknown task e facts = both _ _ (rests_from task (ap is_running e) facts) (not_from _ (false_from _ (λ some. let wrong : Unknown ≡ Disabled = sym e ∙ facts.disabled some in cc)))

-- ---- a task

pub lists_of : {X : Type 0} (pairs : List (List ℕ × X)) → all_pairs name_is_before pairs ≡ true → AreInOrder pairs
lists_of pairs is = T_from _ (sym (pairs_rise pairs) ∙ is)

lists_from : {X : Type 0} (pairs : List (List ℕ × X)) → AreInOrder pairs → all_pairs name_is_before pairs ≡ true
lists_from pairs order = pairs_rise pairs ∙ from_T _ order

task_is : (now : Moment) (task : Task) → task_passes now task ≡ true → are_distinct task.workers ≡ true → IsValidTask now task
task_is now task is distinct =
    let lists = second_of _ _ is in
    let policy = second_of _ _ (first_of _ _ is) in
    let history = second_of _ _ (first_of _ _ (first_of _ _ is)) in
    let moments = second_of _ _ (first_of _ _ (first_of _ _ (first_of _ _ is))) in
    let facts = suits_is task.status task refl (first_of _ _ (first_of _ _ (first_of _ _ (first_of _ _ is)))) in
    let early = first_of _ _ (first_of _ _ moments) in
    record {
      params = lists_of task.params (first_of _ _ (first_of _ _ lists));
      deps = second_of _ _ (first_of _ _ lists);
      workers = distinct;
      stakeholders = second_of _ _ lists;
      worker_running = facts.worker_running;
      time_running = facts.time_running;
      batch = facts.batch;
      in_batch = facts.in_batch;
      disabled = facts.disabled;
      failed = facts.failed;
      added = leb-true _ _ (first_of _ _ (first_of _ _ (first_of _ _ early)));
      updated = leb-true _ _ (second_of _ _ (first_of _ _ (first_of _ _ early)));
      running_since = not_later_is task.time_running now (second_of _ _ (first_of _ _ early));
      disabled_at = not_later_is task.disabled_at now (second_of _ _ early);
      failures = history_is now task history;
      policy = policy_is task.policy policy;
      retry = fits_is task.retry (second_of _ _ (first_of _ _ moments));
      remove = fits_is task.remove (second_of _ _ moments);
    }

task_from : (now : Moment) (task : Task) → IsValidTask now task → task_passes now task ≡ true
task_from now task ok =
    let facts : StatusFacts task = record { worker_running = ok.worker_running; time_running = ok.time_running; batch = ok.batch; in_batch = ok.in_batch; disabled = ok.disabled; failed = ok.failed } in
    let early = both _ _ (both _ _ (both _ _ (le-leb _ _ ok.added) (le-leb _ _ ok.updated)) (not_later_from task.time_running now ok.running_since)) (not_later_from task.disabled_at now ok.disabled_at) in
    both _ _
    (both _ _
    (both _ _ (both _ _ (suits_from task.status task refl facts) (both _ _ (both _ _ early (fits_from task.retry ok.retry)) (fits_from task.remove ok.remove))) (history_from now task ok.failures))
    (policy_from task.policy ok.policy))
    (both _ _ (both _ _ (lists_from task.params ok.params) ok.deps) ok.stakeholders)

-- ---- the other records

worker_is : (now : Moment) (worker : WorkerRec) → worker_passes now worker ≡ true → IsValidWorker now worker
worker_is now worker is =
    let three = first_of _ _ is in
    record {
      started = leb-true _ _ (first_of _ _ (first_of _ _ three));
      last_active = leb-true _ _ (second_of _ _ (first_of _ _ three));
      last_get_work = not_later_is worker.last_get_work now (second_of _ _ three);
      info = lists_of worker.info (second_of _ _ is);
    }

worker_from : (now : Moment) (worker : WorkerRec) → IsValidWorker now worker → worker_passes now worker ≡ true
worker_from now worker ok =
    both _ _ (both _ _ (both _ _ (le-leb _ _ ok.started) (le-leb _ _ ok.last_active)) (not_later_from worker.last_get_work now ok.last_get_work)) (lists_from worker.info ok.info)

size_is : (size : Option ℕ) → fits size ≡ true → IfSome size (λ most. most < 2 ^ 63)
size_is None is = tt
size_is (Some most) is = ltb-true _ _ is

size_from : (size : Option ℕ) → IfSome size (λ most. most < 2 ^ 63) → fits size ≡ true
size_from None is = refl
size_from (Some most) is = lt-ltb _ _ is

settings_are : (s : Settings) → times_pass s ≡ true → counts_pass s ≡ true → AreInRange s
settings_are s times counts =
    let six = first_of _ _ times in
    let five = first_of _ _ six in
    let four = first_of _ _ five in
    let three = first_of _ _ four in
    let two = first_of _ _ three in
    let most = first_of _ _ counts in
    let some = first_of _ _ most in
    let graph = first_of _ _ some in
    record {
      retry_delay = leb-true _ _ (first_of _ _ two);
      remove_delay = leb-true _ _ (second_of _ _ two);
      worker_disconnect_delay = leb-true _ _ (second_of _ _ three);
      disable_window = leb-true _ _ (second_of _ _ four);
      disable_hard_timeout = leb-true _ _ (second_of _ _ five);
      disable_persist = leb-true _ _ (second_of _ _ six);
      retry_count = leb-true _ _ (first_of _ _ graph);
      max_shown_tasks = leb-true _ _ (second_of _ _ graph);
      max_graph_nodes = leb-true _ _ (second_of _ _ some);
      stable_done_cooldown = leb-true _ _ (second_of _ _ times);
      some_tasks = leb-true _ _ (second_of _ _ most);
      max_tasks = leb-true _ _ (second_of _ _ counts);
    }

times_from : (s : Settings) → AreInRange s → times_pass s ≡ true
times_from s ok =
    both _ _ (both _ _ (both _ _ (both _ _ (both _ _ (both _ _ (le-leb _ _ ok.retry_delay) (le-leb _ _ ok.remove_delay)) (le-leb _ _ ok.worker_disconnect_delay)) (le-leb _ _ ok.disable_window)) (le-leb _ _ ok.disable_hard_timeout)) (le-leb _ _ ok.disable_persist)) (le-leb _ _ ok.stable_done_cooldown)

counts_from : (s : Settings) → AreInRange s → counts_pass s ≡ true
counts_from s ok =
    both _ _ (both _ _ (both _ _ (both _ _ (le-leb _ _ ok.retry_count) (le-leb _ _ ok.max_shown_tasks)) (le-leb _ _ ok.max_graph_nodes)) (le-leb _ _ ok.some_tasks)) (le-leb _ _ ok.max_tasks)

-- ---- a state

module _ {X Y : Type 0} (f : X → Y) (test : Y → Y → Bool) where
  all_map : (y : Y) (xs : List X) → list_all (test y) (map f xs) ≡ list_all (λ x. test y (f x)) xs
  all_map y [] = refl
  all_map y (x ∷ xs) = ap (λ (rest : Bool). test y (f x) && rest) (all_map y xs)

  -- pairs of what a function gives
  pairs_map : (xs : List X) → all_pairs test (map f xs) ≡ all_pairs (λ one other. test (f one) (f other)) xs
  pairs_map [] = refl
  pairs_map (x ∷ xs) = λ i. all_map (f x) xs i && pairs_map xs i

passes_in-task : (now : Moment) (next : ℕ) (task : Task) → passes_in now next task ≡ true → IsValidTask now task
passes_in-task now next task is = task_is now task (second_of _ _ (first_of _ _ is)) (second_of _ _ is)

-- what passes is valid
pub passes-valid : (s : State) → passes s ≡ true → IsValidState s
unfolding passes
passes-valid s is =
    let tasks = second_of _ _ is in
    let outside = first_of _ _ (first_of _ _ is) in
    let records = second_of _ _ outside in
    let orders = second_of _ _ (first_of _ _ outside) in
    let numbers = first_of _ _ (first_of _ _ outside) in
    let three = first_of _ _ records in
    record {
      moment_in_range = ltb-true _ _ (first_of _ _ (first_of _ _ (first_of _ _ numbers)));
      pruned_before = not_later_is s.pruned s.moment (second_of _ _ (first_of _ _ (first_of _ _ numbers)));
      next_in_range = leb-true _ _ (second_of _ _ (first_of _ _ numbers));
      settings_in_range = settings_are s.settings (first_of _ _ (first_of _ _ three)) (second_of _ _ (first_of _ _ three));
      few_tasks = leb-true _ _ (second_of _ _ numbers);
      ids_differ = second_of _ _ (first_of _ _ is);
      numbers_rise = pairs_map (λ (t : Task). t.number) nat_lt s.tasks ∙ first_of _ _ (first_of _ _ orders);
      numbers_below_next = each_passes _ (λ (t : Task). t.number < s.next) (λ t is. ltb-true _ _ (first_of _ _ (first_of _ _ is))) s.tasks tasks;
      tasks = each_passes _ (IsValidTask s.moment) (passes_in-task s.moment s.next) s.tasks tasks;
      workers_in_order = pairs_map (λ (w : WorkerRec). w.id) is_before s.workers ∙ second_of _ _ (first_of _ _ orders);
      workers = each_passes _ (IsValidWorker s.moment) (worker_is s.moment) s.workers (second_of _ _ three);
      batchers_in_order = second_of _ _ orders;
      batchers = each_passes _ IsValidBatcher (λ b is. record { size = size_is b.size is }) s.batchers (second_of _ _ records);
    }

tasks_from : (now : Moment) (next : ℕ) (tasks : List Task) → All (λ (t : Task). t.number < next) tasks → All (IsValidTask now) tasks → list_all (passes_in now next) tasks ≡ true
tasks_from now next [] below valid = refl
tasks_from now next (t ∷ ts) below valid =
    let ok = All-head (IsValidTask now) t ts valid in
    both _ _ (both _ _ (both _ _ (lt-ltb _ _ (All-head (λ (t : Task). t.number < next) t ts below)) (task_from now t ok)) ok.workers)
    (tasks_from now next ts (All-tail (λ (t : Task). t.number < next) t ts below) (All-tail (IsValidTask now) t ts valid))

-- what is valid passes
pub valid-passes : (s : State) → IsValidState s → passes s ≡ true
unfolding passes
valid-passes s ok =
    let numbers = both _ _ (both _ _ (both _ _ (lt-ltb _ _ ok.moment_in_range) (not_later_from s.pruned s.moment ok.pruned_before)) (le-leb _ _ ok.next_in_range)) (le-leb _ _ ok.few_tasks) in
    let orders = both _ _ (both _ _ (sym (pairs_map (λ (t : Task). t.number) nat_lt s.tasks) ∙ ok.numbers_rise) (sym (pairs_map (λ (w : WorkerRec). w.id) is_before s.workers) ∙ ok.workers_in_order)) ok.batchers_in_order in
    let settings = both _ _ (times_from s.settings ok.settings_in_range) (counts_from s.settings ok.settings_in_range) in
    let records = both _ _ (both _ _ settings (passes_each _ (IsValidWorker s.moment) (worker_from s.moment) s.workers ok.workers)) (passes_each _ IsValidBatcher (λ b ok. size_from b.size ok.size) s.batchers ok.batchers) in
    both _ _ (both _ _ (both _ _ (both _ _ numbers orders) records) ok.ids_differ) (tasks_from s.moment s.next s.tasks ok.numbers_below_next ok.tasks)

-- ---- the tests, one after another

-- a test outside the tasks fails
pub fails_outside : (s : State) → outside_passes s ≡ false → false ≡ passes s
unfolding passes
fails_outside s is = sym (ap (λ (b : Bool). (b && are_distinct (ids_of s.tasks)) && list_all (passes_in s.moment s.next) s.tasks) is)

-- an id stands twice
pub fails_twice : (s : State) → outside_passes s ≡ true → are_distinct (ids_of s.tasks) ≡ false → false ≡ passes s
unfolding passes
fails_twice s outside is =
    sym (ap (λ (b : Bool). (b && are_distinct (ids_of s.tasks)) && list_all (passes_in s.moment s.next) s.tasks) outside
    ∙ ap (λ (b : Bool). b && list_all (passes_in s.moment s.next) s.tasks) is)

-- the tasks decide
pub tasks_decide : {E : Type 0} (s : State) (r : Result Bool E) → outside_passes s ≡ true → are_distinct (ids_of s.tasks) ≡ true
    → IfOk r (λ b. b ≡ list_all (passes_in s.moment s.next) s.tasks) → IfOk r (λ b. b ≡ passes s)
unfolding passes
tasks_decide s (Ok b) outside distinct is =
    is
    ∙ sym (ap (λ (b : Bool). (b && are_distinct (ids_of s.tasks)) && list_all (passes_in s.moment s.next) s.tasks) outside
    ∙ ap (λ (b : Bool). b && list_all (passes_in s.moment s.next) s.tasks) distinct)
tasks_decide s (Err fault) outside distinct is = tt
