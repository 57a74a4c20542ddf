-- What the small requests leave is valid, and what a task that is set by hand then is.
use Rattle.std.proofs.Common.{◌≡◌, ℕ, ◌<◌, Bool, true, false, cond, not, ◌&&◌, IfSome, IsTrue, is_some, unwrap_or, T, List, [], ◌∷◌, fold, map, length, Option, Some, None, Ordering, Less, Equal, Greater, refl, sym, ap, subst, ◌∙◌, arith}
use Rattle.std.specs.BTreeSet.{replace_key}
use Rattle.std.specs.FinMap.{is_sorted}
use Rattle.std.specs.FinMap.Entries.{below_all}
use Rattle.std.specs.List.{All, filter, list_all}
use Rattle.std.specs.Option.{option_map_or}
use Rattle.std.specs.Ordering.{nat_cmp, match_ordering}
use Rattle.std.specs.Cmp.Lexicographic.{slice_cmp}
use Rattle.std.proofs.lemmas.List.{length-map}
use Rattle.lg_base.specs.declared.moment.Moment.{Moment}
use Rattle.lg_base.specs.Names.{AreInOrder}
use Rattle.lg_calls.specs.declared.info.Info.{Info}
use Rattle.lg_calls.specs.declared.methods.add_worker.AddWorker.{AddWorker}
use Rattle.lg_calls.specs.declared.state.State.{State}
use Rattle.lg_calls.specs.declared.status.Status.{Status}
use Rattle.lg_calls.specs.declared.worker.WorkerRec.{WorkerRec}
use Rattle.lg_calls.specs.Laws.{IdsStayDistinct, NumbersKeepRising}
use Rattle.lg_calls.specs.Methods.AddWorker.{info_cmp, informed, worker_added}
use Rattle.lg_calls.specs.Methods.DisableWorker.{without_worker, worker_disabled}
use Rattle.lg_calls.specs.Order.{are_sorted, is_before, is_same}
use Rattle.lg_calls.specs.Task.{Task}
use Rattle.lg_calls.specs.Tasks.{change_meant, have_distinct_ids, have_rising_numbers}
use Rattle.lg_calls.specs.Valid.{worker_ids_of, IsValidState, IsValidTask, IsValidWorker}
use Rattle.lg_calls.specs.Workers.{find_worker, heard_worker, known_or_new, new_worker, put_worker, touched, worker_cmp}
use Rattle.lg_calls.proofs.OrderLemmas.{all_pairs-filter}
use Rattle.lg_plain.proofs.ListLemmas.{All-change_meant}
use Rattle.lg_plain.proofs.OrderedLemmas.{All-find, All-replace, sorted-replace, worker_ids-replace}

-- ---- workers

known-step : (now : Moment) (id : List ℕ) (found : Option WorkerRec) → IfSome found (IsValidWorker now) → IsValidWorker now (unwrap_or found (new_worker id now))
known-step now id None valid = record { started = omega arith; last_active = omega arith; last_get_work = tt; info = tt }
known-step now id (Some worker) valid = valid

pub valid-known : (id : List ℕ) (s : State) → IsValidState s → IsValidWorker s.moment (known_or_new id s.moment s.workers)
valid-known id s valid =
    known-step s.moment id (find_worker id s.workers) (All-find (IsValidWorker s.moment) (λ worker. is_same id worker.id) s.workers valid.workers)

-- a valid worker is put at its place
pub valid-put : (worker : WorkerRec) (s : State) → IsValidWorker s.moment worker → IsValidState s → IsValidState (put_worker worker s)
valid-put worker s good valid = record {
  moment_in_range = valid.moment_in_range;
  pruned_before = valid.pruned_before;
  next_in_range = valid.next_in_range;
  settings_in_range = valid.settings_in_range;
  few_tasks = valid.few_tasks;
  ids_differ = valid.ids_differ;
  numbers_rise = valid.numbers_rise;
  numbers_below_next = valid.numbers_below_next;
  tasks = valid.tasks;
  workers_in_order = ap are_sorted (worker_ids-replace s.workers worker) ∙ sorted-replace (worker_ids_of s.workers) worker.id valid.workers_in_order;
  workers = All-replace (IsValidWorker s.moment) worker_cmp s.workers worker good valid.workers;
  batchers_in_order = valid.batchers_in_order;
  batchers = valid.batchers;
}

pub valid-touched : (id : List ℕ) (s : State) → IsValidState s → IsValidState (touched id s)
valid-touched id s valid =
    let known = valid-known id s valid in
    valid-put (heard_worker id s.moment s.workers) s
    (record { started = known.started; last_active = omega arith; last_get_work = known.last_get_work; info = known.info }) valid

-- ---- what a worker tells

abbrev Pairs : Type 0
Pairs = List (List ℕ × Info)

abbrev names_of : Pairs → List (List ℕ)
names_of pairs = map (λ pair. pair.0) pairs

names-step : (p : List ℕ × Info) (pairs : Pairs) (pair : List ℕ × Info) (o : Ordering)
    → names_of (replace_key info_cmp pairs pair) ≡ replace_key (slice_cmp nat_cmp) (names_of pairs) pair.0
    → names_of (match_ordering o (pair ∷ p ∷ pairs) (pair ∷ pairs) (p ∷ replace_key info_cmp pairs pair))
    ≡ match_ordering o (pair.0 ∷ p.0 ∷ names_of pairs) (pair.0 ∷ names_of pairs) (p.0 ∷ replace_key (slice_cmp nat_cmp) (names_of pairs) pair.0)
names-step p pairs pair Less rest = refl
names-step p pairs pair Equal rest = refl
names-step p pairs pair Greater rest = ap (λ names. p.0 ∷ names) rest

-- a pair is put where its name is
names-replace : (pairs : Pairs) (pair : List ℕ × Info) → names_of (replace_key info_cmp pairs pair) ≡ replace_key (slice_cmp nat_cmp) (names_of pairs) pair.0
names-replace [] pair = refl
names-replace (p ∷ pairs) pair = names-step p pairs pair (slice_cmp nat_cmp pair.0 p.0) (names-replace pairs pair)

below-names : (name : List ℕ) (pairs : Pairs) → below_all (slice_cmp nat_cmp) name pairs ≡ list_all (is_before name) (names_of pairs)
below-names name [] = refl
below-names name (p ∷ pairs) = ap (λ b. is_before name p.0 && b) (below-names name pairs)

-- pairs stand in order where their names do
sorted-names : (pairs : Pairs) → is_sorted (slice_cmp nat_cmp) pairs ≡ are_sorted (names_of pairs)
sorted-names [] = refl
sorted-names (p ∷ pairs) =
    ap (λ b. b && is_sorted (slice_cmp nat_cmp) pairs) (below-names p.0 pairs) ∙ ap (λ b. list_all (is_before p.0) (names_of pairs) && b) (sorted-names pairs)

is_true : (b : Bool) → T b → b ≡ true
is_true true t = refl
is_true false t = absurd t

in_order-put : (pairs : Pairs) (pair : List ℕ × Info) → AreInOrder pairs → AreInOrder (replace_key info_cmp pairs pair)
in_order-put pairs pair sorted =
    let names = sym (sorted-names pairs) ∙ is_true (is_sorted (slice_cmp nat_cmp) pairs) sorted in
    subst T (sym (sorted-names (replace_key info_cmp pairs pair) ∙ ap are_sorted (names-replace pairs pair) ∙ sorted-replace (names_of pairs) pair.0 names)) tt

in_order-told : (infos known : Pairs) → AreInOrder known → AreInOrder (fold (replace_key info_cmp) known infos)
in_order-told [] known sorted = sorted
in_order-told (pair ∷ infos) known sorted = in_order-told infos (replace_key info_cmp known pair) (in_order-put known pair sorted)

pub valid-worker_added : (ask : AddWorker) (s : State) → IsValidState s → IsValidState (worker_added ask s)
valid-worker_added ask s valid =
    let worker = known_or_new ask.worker s.moment s.workers in
    let known = valid-known ask.worker s valid in
    valid-put (informed ask.info worker) s
    (record { started = known.started; last_active = known.last_active; last_get_work = known.last_get_work; info = in_order-told ask.info worker.info known.info }) valid

-- ---- a worker is disabled

valid-without : (now : Moment) (worker : List ℕ) (task : Task) → IsValidTask now task → IsValidTask now (without_worker worker task)
valid-without now worker task valid = record {
  params = valid.params;
  deps = valid.deps;
  workers = all_pairs-filter (λ one other. not (is_same one other)) (λ other. not (is_same worker other)) task.workers valid.workers;
  stakeholders = valid.stakeholders;
  worker_running = valid.worker_running;
  time_running = valid.time_running;
  batch = valid.batch;
  in_batch = valid.in_batch;
  disabled = valid.disabled;
  failed = valid.failed;
  added = valid.added;
  updated = valid.updated;
  running_since = valid.running_since;
  disabled_at = valid.disabled_at;
  failures = valid.failures;
  policy = valid.policy;
  retry = valid.retry;
  remove = valid.remove;
}

module _
    (distinct : (tasks : List Task) → IsTrue (have_distinct_ids tasks) → IdsStayDistinct tasks)
    (rising : (tasks : List Task) → IsTrue (have_rising_numbers tasks) → NumbersKeepRising tasks) where
  abbrev all_without : List ℕ → List Task → List Task
  all_without worker tasks = change_meant (λ _. true) (without_worker worker) tasks

  valid-left : (worker : List ℕ) (s : State) → IsValidState s → IsValidState (record s { tasks = all_without worker s.tasks })
  valid-left worker s valid = record {
    moment_in_range = valid.moment_in_range;
    pruned_before = valid.pruned_before;
    next_in_range = valid.next_in_range;
    settings_in_range = valid.settings_in_range;
    few_tasks = omega (arith, length-map s.tasks (without_worker worker), valid.few_tasks);
    ids_differ = (distinct s.tasks valid.ids_differ).changed (λ _. true) (without_worker worker) (λ task. refl);
    numbers_rise = (rising s.tasks valid.numbers_rise).changed (λ _. true) (without_worker worker) (λ task. refl);
    numbers_below_next = All-change_meant (λ task. task.number < s.next) (λ _. true) (without_worker worker) (λ task below. below) s.tasks valid.numbers_below_next;
    tasks = All-change_meant (IsValidTask s.moment) (λ _. true) (without_worker worker) (valid-without s.moment worker) s.tasks valid.tasks;
    workers_in_order = valid.workers_in_order;
    workers = valid.workers;
    batchers_in_order = valid.batchers_in_order;
    batchers = valid.batchers;
  }

  pub valid-worker_disabled : (worker : List ℕ) (s : State) → IsValidState s → IsValidState (worker_disabled worker s)
  valid-worker_disabled worker s valid =
      let known = valid-known worker s valid in
      let out = record (known_or_new worker s.moment s.workers) { disabled = true } in
      valid-left worker (put_worker out s)
      (valid-put out s (record { started = known.started; last_active = known.last_active; last_get_work = known.last_get_work; info = known.info }) valid)
