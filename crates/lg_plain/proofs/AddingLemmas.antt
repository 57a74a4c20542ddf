-- `add_task` keeps a state valid, step by step.
use Rattle.std.proofs.Common.{◌≡◌, ℕ, ℤ, ◌+◌, ◌^◌, ◌<◌, ◌≤◌, ltb, Bool, true, false, cond, ◌&&◌, ◌||◌, ◌⊎◌, inl, inr, IfSome, IsTrue, is_some, unwrap_or, List, [], ◌∷◌, fold, length, Option, Some, None, refl, sym, ap, subst, ◌∙◌, arith}
use Rattle.std.specs.List.{All}
use Rattle.std.specs.Option.{option_map_or}
use Rattle.std.proofs.lemmas.Bool.{ltb-false}
use Rattle.std.proofs.lemmas.List.{length-map, length_push}
use Rattle.std.proofs.lemmas.List.Elements.{All-map, All-push, All-weaker}
use Rattle.lg_base.specs.declared.moment.Moment.{Moment}
use Rattle.lg_calls.specs.declared.methods.add_task.AddTask.{AddTask}
use Rattle.lg_calls.specs.declared.state.State.{State}
use Rattle.lg_calls.specs.declared.status.Reported.{Reported}
use Rattle.lg_calls.specs.declared.status.Reported.TheVariants as R
use Rattle.lg_calls.specs.declared.status.Status.{Status}
use Rattle.lg_calls.specs.declared.status.Status.TheVariants.{Failed, Pending, Running, Unknown}
use Rattle.lg_calls.specs.declared.worker.WorkerRec.{WorkerRec}
use Rattle.lg_calls.specs.Laws.{IdsStayDistinct, NumbersKeepRising}
use Rattle.lg_calls.specs.Methods.AddTask.{add_task_in_range}
use Rattle.lg_calls.specs.Order.{all_pairs, are_sorted, is_same}
use Rattle.lg_calls.specs.Settings.{AreInRange, policy_of}
use Rattle.lg_calls.specs.Status.{along_with, is_meant, runs_in, set_alone, set_status}
use Rattle.lg_calls.specs.Task.{Task}
use Rattle.lg_calls.specs.Tasks.{have_distinct_ids, have_rising_numbers, has_id, find_task, change_meant}
use Rattle.lg_calls.specs.Valid.{batcher_is_before, is_running, worker_ids_of, IsValidBatcher, IsValidPolicy, IsValidState, IsValidTask, IsValidWorker, NotLater}
use Rattle.lg_calls.specs.Raising.{is_raised, raised, with_priority}
use Rattle.lg_calls.specs.AddTask.Adding.{added, carried, has_no_room, max_next}
use Rattle.lg_calls.specs.AddTask.Describing.{batch_meant, batch_told, by_task, task_described, filled, replaced, replaces_url, task_changed, told}
use Rattle.lg_calls.specs.AddTask.Ending.{ends}
use Rattle.lg_calls.specs.AddTask.Making.{made, new_task, with_task}
use Rattle.lg_calls.specs.AddTask.Offering.{offered, offers, policy_with, as_urgent, runnable_by, urged, with_policy}
use Rattle.lg_calls.specs.AddTask.Reporting.{run_begun, counts, needs_reported, task_reported, resources_behind, resources_set, status_counted, status_of, status_reported, with_deps, with_resources}
use Rattle.lg_calls.specs.Workers.{find_worker, heard_worker, new_worker, touched, worker_cmp}
use Rattle.lg_calls.specs.AddTask.Wanting.{deps_made, has_id_of, stakes_added, wanted, wanted_by, wants}
use Rattle.lg_plain.proofs.KeptLemmas.{KeepsPlace, place-begun, place-set_alone}
use Rattle.lg_plain.proofs.ListLemmas.{All-change_meant}
use Rattle.lg_plain.proofs.MeantLemmas.{All-both, alone-set, found-alone, fused, meant-alone, nobody_along, once, then_begun}
use Rattle.lg_plain.proofs.OrderedLemmas.{All-find, All-replace, or-neither, sorted-replace, worker_ids-replace}
use Rattle.lg_plain.proofs.PartLemmas.{ask-policy, policy-said, policy-settings, valid-as_urgent, valid-begun, valid-filled, valid-new_task, valid-replaced, valid-runnable_by, valid-set_begun, valid-told, valid-wanted_by, valid-with_deps, valid-with_policy, valid-with_resources}
use Rattle.lg_plain.proofs.RaisingLemmas.{valid-with}
use Rattle.lg_plain.proofs.ValidityLemmas.{KeepsOrder, valid-runs_on, valid-set_alone}

-- ---- states

-- a state that is valid, but for its tasks one by one and for how many tasks and numbers there are
record IsFrame (s : State) : Type 0 where
  moment_in_range : s.moment.0 < 2 ^ 62
  pruned_before : NotLater s.pruned s.moment
  settings_in_range : AreInRange s.settings
  ids_differ : IsTrue (have_distinct_ids s.tasks)
  numbers_rise : IsTrue (have_rising_numbers s.tasks)
  numbers_below_next : All (λ task. task.number < s.next) s.tasks
  workers_in_order : IsTrue (are_sorted (worker_ids_of s.workers))
  workers : All (IsValidWorker s.moment) s.workers
  batchers_in_order : IsTrue (all_pairs batcher_is_before s.batchers)
  batchers : All IsValidBatcher s.batchers

-- a state that is valid, but for how many tasks and numbers there are
record IsSound (s : State) : Type 0 where
  frame : IsFrame s
  tasks : All (IsValidTask s.moment) s.tasks

sound : (s : State) → IsValidState s → IsSound s
sound s valid = record {
  frame = record {
    moment_in_range = valid.moment_in_range;
    pruned_before = valid.pruned_before;
    settings_in_range = valid.settings_in_range;
    ids_differ = valid.ids_differ;
    numbers_rise = valid.numbers_rise;
    numbers_below_next = valid.numbers_below_next;
    workers_in_order = valid.workers_in_order;
    workers = valid.workers;
    batchers_in_order = valid.batchers_in_order;
    batchers = valid.batchers;
  };
  tasks = valid.tasks;
}

-- a step keeps a state sound, and each task that comes takes one number
record Keeps (s t : State) : Type 0 where
  sound : IsSound s → IsSound t
  balance : length t.tasks + s.next ≡ length s.tasks + t.next

same : (s : State) → Keeps s s
same s = record { sound = λ here. here; balance = refl }

chained : (s t u : State) → Keeps s t → Keeps t u → Keeps s u
chained s t u first second = record {
  sound = λ here. second.sound (first.sound here);
  balance = omega (arith, first.balance, second.balance);
}

chosen : (b : Bool) (s t u : State) → Keeps s t → Keeps s u → Keeps s (cond b t u)
chosen true s t u p q = p
chosen false s t u p q = q

by_found : (s : State) (step : Task → State → State) (found : Option Task) → ((task : Task) → found ≡ Some task → Keeps s (step task s))
    → Keeps s (option_map_or (λ task. step task s) found s)
by_found s step None keeps = same s
by_found s step (Some task) keeps = keeps task refl

by : (ask : AddTask) (s : State) (step : Task → State → State) → ((task : Task) → find_task ask.task_id s.tasks ≡ Some task → Keeps s (step task s))
    → Keeps s (by_task ask step s)
by ask s step keeps = by_found s step (find_task ask.task_id s.tasks) keeps

along : (f : State → List ℕ → State) → ((s : State) (id : List ℕ) → Keeps s (f s id)) → (s : State) (ids : List (List ℕ)) → Keeps s (fold f s ids)
along f keeps s [] = same s
along f keeps s (id ∷ ids) = chained s (f s id) (fold f (f s id) ids) (keeps s id) (along f keeps (f s id) ids)

-- ---- the end: there is room

bounded : (s t : State) (b : Bool) → ltb s.next t.next ≡ b → IsValidState s → Keeps s t
    → (b && (ltb s.settings.max_tasks (length t.tasks) || ltb max_next t.next)) ≡ false → (length t.tasks ≤ 1000000) × (t.next ≤ 2 ^ 62)
bounded s t true more valid keeps room =
    let neither = or-neither (ltb s.settings.max_tasks (length t.tasks)) (ltb max_next t.next) room in
    let few = ltb-false s.settings.max_tasks (length t.tasks) neither.0 in
    let low = ltb-false max_next t.next neither.1 in
    (omega (arith, few, valid.settings_in_range.max_tasks), low)
bounded s t false more valid keeps room =
    let none = ltb-false s.next t.next more in
    (omega (arith, none, keeps.balance, valid.few_tasks), omega (arith, none, valid.next_in_range))

valid-behind : (s t : State) → IsValidState s → Keeps s t → has_no_room s t ≡ false → IsValidState t
valid-behind s t valid keeps room =
    let here = keeps.sound (sound s valid) in
    let bound = bounded s t (ltb s.next t.next) refl valid keeps room in
    record {
      moment_in_range = here.frame.moment_in_range;
      pruned_before = here.frame.pruned_before;
      next_in_range = bound.1;
      settings_in_range = here.frame.settings_in_range;
      few_tasks = bound.0;
      ids_differ = here.frame.ids_differ;
      numbers_rise = here.frame.numbers_rise;
      numbers_below_next = here.frame.numbers_below_next;
      tasks = here.tasks;
      workers_in_order = here.frame.workers_in_order;
      workers = here.frame.workers;
      batchers_in_order = here.frame.batchers_in_order;
      batchers = here.frame.batchers;
    }

-- ---- the touch

heard-step : (now : Moment) (id : List ℕ) (found : Option WorkerRec) → IfSome found (IsValidWorker now)
    → IsValidWorker now (record (unwrap_or found (new_worker id now)) { last_active = now })
heard-step now id None valid = record { started = omega arith; last_active = omega arith; last_get_work = tt; info = tt }
heard-step now id (Some worker) valid = record {
  started = valid.started;
  last_active = omega arith;
  last_get_work = valid.last_get_work;
  info = valid.info;
}

keeps-touched : (id : List ℕ) (s : State) → Keeps s (touched id s)
keeps-touched id s = record {
  sound = λ here. record {
    frame = record {
      moment_in_range = here.frame.moment_in_range;
      pruned_before = here.frame.pruned_before;
      settings_in_range = here.frame.settings_in_range;
      ids_differ = here.frame.ids_differ;
      numbers_rise = here.frame.numbers_rise;
      numbers_below_next = here.frame.numbers_below_next;
      workers_in_order = ap are_sorted (worker_ids-replace s.workers (heard_worker id s.moment s.workers))
          ∙ sorted-replace (worker_ids_of s.workers) (heard_worker id s.moment s.workers).id here.frame.workers_in_order;
      workers = All-replace (IsValidWorker s.moment) worker_cmp s.workers (heard_worker id s.moment s.workers)
          (heard-step s.moment id (find_worker id s.workers) (All-find (IsValidWorker s.moment) (λ worker. is_same id worker.id) s.workers here.frame.workers))
          here.frame.workers;
      batchers_in_order = here.frame.batchers_in_order;
      batchers = here.frame.batchers;
    };
    tasks = here.tasks;
  };
  balance = refl;
}

-- ---- what a report is of

runs_or_stops : (report : Reported) → (is_running (status_of report) ≡ false) ⊎ (status_of report ≡ Running)
runs_or_stops R.Pending = inl refl
runs_or_stops R.Running = inr refl
runs_or_stops R.Done = inl refl
runs_or_stops R.Failed = inl refl
runs_or_stops R.Disabled = inl refl
runs_or_stops R.Unknown = inl refl
runs_or_stops R.Suspended = inl refl

-- the task of a call is set to a status, with the status that it had before
abbrev counted : AddTask → Status → Status → State → State
counted ask before status s =
    let after = set_status s ask.task_id status in
    cond (is_running before) after (task_changed ask (run_begun ask s.moment) after)

-- what a rise leaves
settings-by : (s : State) (step : Task → State → State) → ((task : Task) → (step task s).settings ≡ s.settings) → (found : Option Task)
    → (option_map_or (λ task. step task s) found s).settings ≡ s.settings
settings-by s step keeps None = refl
settings-by s step keeps (Some task) = keeps task

settings-urged : (ask : AddTask) (s : State) → (urged ask s).settings ≡ s.settings
settings-urged ask s =
    let first = task_changed ask (as_urgent ask) s in
    settings-by first (λ task here. record here { tasks = raised task.priority ask.task_id here.tasks }) (λ task. refl) (find_task ask.task_id first.tasks)

pending≢failed : Pending ≡ Failed → ⊥
pending≢failed e = cc

unknown≢failed : Unknown ≡ Failed → ⊥
unknown≢failed e = cc

module _
    (keeps_order : KeepsOrder)
    (distinct : (tasks : List Task) → IsTrue (have_distinct_ids tasks) → IdsStayDistinct tasks)
    (rising : (tasks : List Task) → IsTrue (have_rising_numbers tasks) → NumbersKeepRising tasks) where
  -- ---- the tasks that are meant are changed

  frame-changed : (s : State) (meant : Task → Bool) (change : Task → Task) → KeepsPlace change → IsFrame s
      → IsFrame (record s { tasks = change_meant meant change s.tasks })
  frame-changed s meant change place frame = record {
    moment_in_range = frame.moment_in_range;
    pruned_before = frame.pruned_before;
    settings_in_range = frame.settings_in_range;
    ids_differ = (distinct s.tasks frame.ids_differ).changed meant change place.id;
    numbers_rise = (rising s.tasks frame.numbers_rise).changed meant change place.number;
    numbers_below_next = All-change_meant (λ task. task.number < s.next) meant change
        (λ task below. subst (λ n. n < s.next) (sym (place.number task)) below) s.tasks frame.numbers_below_next;
    workers_in_order = frame.workers_in_order;
    workers = frame.workers;
    batchers_in_order = frame.batchers_in_order;
    batchers = frame.batchers;
  }

  changed : (s : State) (meant : Task → Bool) (change : Task → Task) → KeepsPlace change
      → (IsSound s → (task : Task) → IsValidTask s.moment task → IsValidTask s.moment (change task))
      → Keeps s (record s { tasks = change_meant meant change s.tasks })
  changed s meant change place valid =
      let long : length (change_meant meant change s.tasks) ≡ length s.tasks = length-map s.tasks (λ task. cond (meant task) (change task) task) in
      record {
        sound = λ here. record {
          frame = frame-changed s meant change place here.frame;
          tasks = All-change_meant (IsValidTask s.moment) meant change (valid here) s.tasks here.tasks;
        };
        balance = omega (arith, long);
      }

  -- ---- a task is made

  sound-made : (status : Status) (priority : ℤ) (id : List ℕ) (s : State) → is_running status ≡ false → (status ≡ Failed → ⊥)
      → find_task id s.tasks ≡ None → IsSound s → IsSound (made status priority id s)
  sound-made status priority id s stops hale none here =
      let new = new_task status priority id s in
      record {
        frame = record {
          moment_in_range = here.frame.moment_in_range;
          pruned_before = here.frame.pruned_before;
          settings_in_range = here.frame.settings_in_range;
          ids_differ = (distinct s.tasks here.frame.ids_differ).added new none;
          numbers_rise = (rising s.tasks here.frame.numbers_rise).added new here.frame.numbers_below_next;
          numbers_below_next = All-push (λ task. task.number < s.next + 1) s.tasks new
              (All-weaker (λ task. task.number < s.next) (λ task. task.number < s.next + 1) (λ task below. omega arith) s.tasks here.frame.numbers_below_next)
              (omega arith);
          workers_in_order = here.frame.workers_in_order;
          workers = here.frame.workers;
          batchers_in_order = here.frame.batchers_in_order;
          batchers = here.frame.batchers;
        };
        tasks = All-push (IsValidTask s.moment) s.tasks new here.tasks (valid-new_task s status priority id here.frame.settings_in_range stops hale);
      }

  with : (status : Status) (priority : ℤ) (s : State) (id : List ℕ) → is_running status ≡ false → (status ≡ Failed → ⊥) → Keeps s (with_task status priority s id)
  with status priority s id stops hale = by_known (find_task id s.tasks) refl
    where
      by_known : (found : Option Task) → find_task id s.tasks ≡ found → Keeps s (cond (is_some found) s (made status priority id s))
      by_known None none = record {
        sound = sound-made status priority id s stops hale none;
        balance = omega (arith, length_push s.tasks (new_task status priority id s));
      }
      by_known (Some task) known = same s

  -- ---- the task is described

  keeps-described : (ask : AddTask) (s : State) → IsTrue (add_task_in_range ask) → Keeps s (task_described ask s)
  keeps-described ask s in_range =
      let first = task_changed ask (filled ask) s in
      let second = by_task ask (batch_told ask) first in
      chained s first (task_described ask s)
      (changed s (has_id ask.task_id) (filled ask) (record { id = λ task. refl; number = λ task. refl }) (λ here task valid. valid-filled s.moment task valid ask in_range))
      (chained first second (task_described ask s)
      (by ask first (batch_told ask)
      (λ task found. changed first (runs_in (batch_meant ask task)) (told ask (replaces_url ask task)) (record { id = λ t. refl; number = λ t. refl })
      (λ here t valid. valid-told first.moment t valid ask (replaces_url ask task))))
      (changed second (has_id ask.task_id) (replaced ask) (record { id = λ task. refl; number = λ task. refl }) (λ here task valid. valid-replaced second.moment task valid ask)))

  -- ---- the status

  keeps-set : (s : State) (id : List ℕ) (status : Status) → is_running status ≡ false → Keeps s (set_status s id status)
  keeps-set s id status stops =
      changed s (is_meant id (along_with status id s.tasks)) (set_alone s.settings.retry_delay s.moment status)
      (place-set_alone s.settings.retry_delay s.moment status)
      (λ here task. valid-set_alone keeps_order s.settings.retry_delay s.moment status task stops
      (omega (arith, here.frame.moment_in_range, here.frame.settings_in_range.retry_delay)))

  keeps-stopped : (ask : AddTask) (before status : Status) (s : State) → is_running status ≡ false → Keeps s (counted ask before status s)
  keeps-stopped ask before status s stops =
      let after = set_status s ask.task_id status in
      let set = keeps-set s ask.task_id status stops in
      chosen (is_running before) s after (task_changed ask (run_begun ask s.moment) after) set
      (chained s after (task_changed ask (run_begun ask s.moment) after) set
      (changed after (has_id ask.task_id) (run_begun ask s.moment) (place-begun ask s.moment) (λ here task. valid-begun ask s.moment task)))

  -- who didn't run begins to
  keeps-begins : (ask : AddTask) (s : State) → Keeps s (task_changed ask (run_begun ask s.moment) (set_status s ask.task_id Running))
  keeps-begins ask s =
      let id = ask.task_id in
      let set : Task → Task = set_alone s.settings.retry_delay s.moment Running in
      let begin : Task → Task = run_begun ask s.moment in
      let V : Task → Type 0 = IsValidTask s.moment in
      let meant : Task → Bool = is_meant id (along_with Running id s.tasks) in
      let after = set_status s id Running in
      let place = place-set_alone s.settings.retry_delay s.moment Running in
      let one : length after.tasks ≡ length s.tasks = length-map s.tasks (λ task. cond (meant task) (set task) task) in
      let two : length (change_meant (has_id id) begin after.tasks) ≡ length after.tasks = length-map after.tasks (λ task. cond (has_id id task) (begin task) task) in
      record {
        sound = λ here. record {
          frame = frame-changed after (has_id id) begin (place-begun ask s.moment) (frame-changed s meant set place here.frame);
          tasks = subst (λ along. All V (change_meant (has_id id) begin (change_meant (is_meant id along) set s.tasks))) (sym (nobody_along (find_task id s.tasks)))
              (All-map V (then_begun V id set begin) (change_meant (is_meant id None) set s.tasks)
              (All-map (λ task. V (then_begun V id set begin task)) (λ task. once V id set begin (is_meant id None task) task) s.tasks
              (All-weaker V (λ task. V (then_begun V id set begin (once V id set begin (is_meant id None task) task)))
              (λ task valid. fused V id set begin place.id task (has_id id task) (is_meant id None task) (meant-alone id task) refl
              (λ has. valid-set_begun ask s.settings.retry_delay s.moment task valid) valid)
              s.tasks here.tasks)));
        };
        balance = omega (arith, one, two);
      }

  -- who runs runs on
  keeps-runs_on : (s : State) (id : List ℕ) (task : Task) → find_task id s.tasks ≡ Some task → is_running task.status ≡ true → Keeps s (set_status s id Running)
  keeps-runs_on s id found is runs =
      let set : Task → Task = set_alone s.settings.retry_delay s.moment Running in
      let V : Task → Type 0 = IsValidTask s.moment in
      let meant : Task → Bool = is_meant id (along_with Running id s.tasks) in
      let place = place-set_alone s.settings.retry_delay s.moment Running in
      let long : length (change_meant meant set s.tasks) ≡ length s.tasks = length-map s.tasks (λ task. cond (meant task) (set task) task) in
      record {
        sound = λ here. record {
          frame = frame-changed s meant set place here.frame;
          tasks = subst (λ along. All V (change_meant (is_meant id along) set s.tasks)) (sym (nobody_along (find_task id s.tasks)))
              (All-map V (λ task. once V id set set (is_meant id None task) task) s.tasks
              (All-both (λ task. has_id id task ≡ true → task ≡ found) V (λ task. V (once V id set set (is_meant id None task) task)) s.tasks
              (λ task alone valid. alone-set V id set set task (has_id id task) (is_meant id None task) (meant-alone id task) refl
              (λ has. valid-runs_on s.settings.retry_delay s.moment task (ap (λ (t : Task). is_running t.status) (alone has) ∙ runs) valid) valid)
              (found-alone id s.tasks found here.frame.ids_differ is) here.tasks));
        };
        balance = omega (arith, long);
      }

  keeps-running : (ask : AddTask) (task : Task) (s : State) → find_task ask.task_id s.tasks ≡ Some task → Keeps s (counted ask task.status Running s)
  keeps-running ask task s found = by_before (is_running task.status) refl
    where
      by_before : (b : Bool) → is_running task.status ≡ b
          → Keeps s (cond b (set_status s ask.task_id Running) (task_changed ask (run_begun ask s.moment) (set_status s ask.task_id Running)))
      by_before true runs = keeps-runs_on s ask.task_id task found runs
      by_before false stops = keeps-begins ask s

  keeps-counted : (ask : AddTask) (task : Task) (s : State) → find_task ask.task_id s.tasks ≡ Some task → Keeps s (status_counted ask task.status s)
  keeps-counted ask task s found = elim (runs_or_stops ask.status) [
    | inl stops ↦ keeps-stopped ask task.status (status_of ask.status) s stops
    | inr runs ↦ subst (λ status. Keeps s (counted ask task.status status s)) (sym runs) (keeps-running ask task s found)
  ]

  -- ---- what the task needs

  keeps-needs : (ask : AddTask) (before : Status) (s : State) → Keeps s (needs_reported ask before s)
  keeps-needs ask before s =
      let first = task_changed ask (with_deps ask) s in
      chained s first (needs_reported ask before s)
      (changed s (has_id ask.task_id) (with_deps ask) (record { id = λ task. refl; number = λ task. refl }) (λ here task valid. valid-with_deps s.moment task valid ask))
      (by ask first (resources_set ask before)
      (λ task found. changed first (has_id ask.task_id) (with_resources (resources_behind ask before task first.tasks)) (record { id = λ t. refl; number = λ t. refl })
      (λ here t valid. valid-with_resources first.moment t valid (resources_behind ask before task first.tasks))))

  keeps-reported : (ask : AddTask) (s : State) → Keeps s (task_reported ask s)
  keeps-reported ask s =
      by ask s (λ task here. needs_reported ask task.status (status_reported ask task here))
      (λ task found. chained s (status_reported ask task s) (needs_reported ask task.status (status_reported ask task s))
      (chosen (counts ask task) s (status_counted ask task.status s) s (keeps-counted ask task s found) (same s))
      (keeps-needs ask task.status (status_reported ask task s)))

  -- ---- who wants the task, and who can run it

  keeps-wanted : (ask : AddTask) (s : State) → Keeps s (wanted ask s)
  keeps-wanted ask s =
      let step : Task → State → State = λ task here. stakes_added ask task (deps_made ask task here) in
      chosen (wants ask s) s (by_task ask step s) s
      (by ask s step
      (λ task found. chained s (deps_made ask task s) (step task s)
      (along (with_task Unknown ask.priority) (λ here id. with Unknown ask.priority here id refl unknown≢failed) s task.deps)
      (changed (deps_made ask task s) (has_id_of (task.id ∷ task.deps)) (wanted_by ask.worker) (record { id = λ t. refl; number = λ t. refl })
      (λ here t valid. valid-wanted_by (deps_made ask task s).moment t valid ask.worker))))
      (same s)

  keeps-urged : (ask : AddTask) (s : State) → Keeps s (urged ask s)
  keeps-urged ask s =
      let first = task_changed ask (as_urgent ask) s in
      chained s first (urged ask s)
      (changed s (has_id ask.task_id) (as_urgent ask) (record { id = λ task. refl; number = λ task. refl }) (λ here task valid. valid-as_urgent s.moment task valid ask))
      (by ask first (λ task here. record here { tasks = raised task.priority ask.task_id here.tasks })
      (λ task found. changed first (is_raised task.priority ask.task_id first.tasks) (with_priority task.priority) (record { id = λ t. refl; number = λ t. refl })
      (λ here t valid. valid-with task.priority first t valid)))

  keeps-offered : (ask : AddTask) (s : State) → IsTrue (add_task_in_range ask) → Keeps s (offered ask s)
  keeps-offered ask s in_range =
      let policy = policy_with ask.retry_policy (policy_of s.settings) in
      let first = urged ask s in
      let second = task_changed ask (with_policy policy) first in
      let third = task_changed ask (runnable_by ask.worker) second in
      let valid_policy : AreInRange first.settings → IsValidPolicy policy =
      λ fit. policy-said ask.retry_policy (policy_of s.settings) (ask-policy ask in_range) (policy-settings s.settings (subst AreInRange (settings-urged ask s) fit)) in
      let so_far : Keeps s second =
      chained s first second (keeps-urged ask s)
      (changed first (has_id ask.task_id) (with_policy policy) (record { id = λ task. refl; number = λ task. refl })
      (λ here task valid. valid-with_policy first.moment task valid policy (valid_policy here.frame.settings_in_range))) in
      chosen (offers ask s) s third second
      (chained s second third so_far
      (changed second (has_id ask.task_id) (runnable_by ask.worker) (record { id = λ task. refl; number = λ task. refl })
      (λ here task valid. valid-runnable_by second.moment task valid ask.worker)))
      so_far

  -- ---- the whole

  keeps-added : (ask : AddTask) (s : State) → IsTrue (add_task_in_range ask) → Keeps s (added ask s)
  keeps-added ask s in_range =
      let here = touched ask.worker s in
      let one = with_task Pending ask.priority here ask.task_id in
      let two = task_described ask one in
      let three = task_reported ask two in
      let four = wanted ask three in
      let touch = keeps-touched ask.worker s in
      chosen (ends ask here) s here (carried ask here) touch
      (chained s here (carried ask here) touch
      (chained here one (carried ask here) (with Pending ask.priority here ask.task_id refl pending≢failed)
      (chained one two (carried ask here) (keeps-described ask one in_range)
      (chained two three (carried ask here) (keeps-reported ask two)
      (chained three four (carried ask here) (keeps-wanted ask three) (keeps-offered ask four in_range))))))

  -- a state stays valid where there is room for what is made
  pub valid-added : (ask : AddTask) (s : State) → IsValidState s → IsTrue (add_task_in_range ask) → has_no_room s (added ask s) ≡ false → IsValidState (added ask s)
  valid-added ask s valid in_range room = valid-behind s (added ask s) valid (keeps-added ask s in_range) room
