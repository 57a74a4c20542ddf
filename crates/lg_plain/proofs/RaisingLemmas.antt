-- What is found behind a raise, and that it leaves a state valid.
use Rattle.std.proofs.Common.{◌≡◌, ℕ, nat_lt, ◌<◌, ℤ, ◌<ℤ◌, ◌≤ℤ◌, Bool, true, false, cond, IsTrue, Option, Some, None, List, [], ◌∷◌, map, length, refl, sym, ap, ◌∙◌, subst, arith}
use Rattle.std.specs.List.{All, Contains}
use Rattle.std.specs.Option.{option_map}
use Rattle.std.proofs.lemmas.Int.{ints}
use Rattle.std.proofs.lemmas.List.{length-map}
use Rattle.std.proofs.lemmas.Option.{same_Some}
use Rattle.lg_calls.specs.declared.state.State.{State}
use Rattle.lg_calls.specs.Order.{all_pairs, are_distinct}
use Rattle.lg_calls.specs.Task.{Task}
use Rattle.lg_calls.specs.Tasks.{ids_of, numbers_of, find_task, change_meant}
use Rattle.lg_calls.specs.Valid.{IsValidTask, IsValidState}
use Rattle.lg_calls.specs.Raising.{leads, leads_from, is_raised, with_priority, raised, beside_priority, IsPath}
use Rattle.lg_plain.proofs.ListLemmas.{map-change_meant, All-change_meant, find_task-change_meant}
use Rattle.lg_plain.proofs.PathLemmas.{leads-path, path-leads, leads-lower}

abbrev changed : ℤ → Bool → Task → Task
changed p b task = cond b (with_priority p task) task

-- the task that is found is the one that was found before, raised where the priority goes on to it
found : (p : ℤ) (id other : List ℕ) (tasks : List Task) (task : Task) → find_task other tasks ≡ Some task
    → find_task other (raised p id tasks) ≡ Some (changed p (is_raised p id tasks task) task)
found p id other tasks task here =
    find_task-change_meant (is_raised p id tasks) (with_priority p) (λ t. refl) other tasks
    ∙ ap (option_map (λ t. changed p (is_raised p id tasks t) t)) here

found-as : (p : ℤ) (id other : List ℕ) (tasks : List Task) (task : Task) (b : Bool) → find_task other tasks ≡ Some task → is_raised p id tasks task ≡ b
    → find_task other (raised p id tasks) ≡ Some (changed p b task)
found-as p id other tasks task b here is = found p id other tasks task here ∙ ap (λ c. Some (changed p c task)) is

never : (b : Bool) → (b ≡ true → ⊥) → b ≡ false
never true h = absurd (h refl)
never false h = refl

pub raised-led_to : (p : ℤ) (id other : List ℕ) (tasks : List Task) (from to : Task) → find_task id tasks ≡ Some from → find_task other tasks ≡ Some to
    → (by : List Task) → All (Contains tasks) by → IsPath p from by to → find_task other (raised p id tasks) ≡ Some (with_priority p to)
raised-led_to p id other tasks from to root here by known path =
    found-as p id other tasks to true here (ap (λ o. leads_from p tasks o to) root ∙ leads-path p tasks from by to known path)

pub raised-not_led_to : (p : ℤ) (id other : List ℕ) (tasks : List Task) (from to : Task) → find_task id tasks ≡ Some from → find_task other tasks ≡ Some to
    → ((by : List Task) → All (Contains tasks) by → IsPath p from by to → ⊥) → find_task other (raised p id tasks) ≡ Some to
raised-not_led_to p id other tasks from to root here none =
    found-as p id other tasks to false here
    (ap (λ o. leads_from p tasks o to) root
    ∙ never (leads p tasks from to) (λ led. let path = path-leads p tasks from to led in none path.0 path.1 path.2))

nobody-changed : (p : ℤ) (meant : Task → Bool) (tasks : List Task) → ((task : Task) → meant task ≡ false) → change_meant meant (with_priority p) tasks ≡ tasks
nobody-changed p meant [] none = refl
nobody-changed p meant (task ∷ tasks) none = λ i. ap (λ b. changed p b task) (none task) i ∷ nobody-changed p meant tasks none i

pub raised-from_nobody : (p : ℤ) (id : List ℕ) (tasks : List Task) → find_task id tasks ≡ None → raised p id tasks ≡ tasks
raised-from_nobody p id tasks none = nobody-changed p (is_raised p id tasks) tasks (λ task. ap (λ o. leads_from p tasks o task) none)

-- who is raised has a lower priority
lower-from : (p : ℤ) (tasks : List Task) (root : Option Task) (task : Task) → leads_from p tasks root task ≡ true → task.priority <ℤ p
lower-from p tasks None task led = absurd (let apart : false ≡ true → ⊥ = λ e. cc in apart led)
lower-from p tasks (Some root) task led = leads-lower p tasks root task led

not-below : (x y : ℤ) → y ≤ℤ x → x <ℤ y → ⊥
not-below x y h k = absurd (omega (arith, ints))

pub raised-as_urgent : (p : ℤ) (id other : List ℕ) (tasks : List Task) (task : Task) → find_task other tasks ≡ Some task → p ≤ℤ task.priority
    → find_task other (raised p id tasks) ≡ Some task
raised-as_urgent p id other tasks task here urgent =
    found-as p id other tasks task false here
    (never (is_raised p id tasks task) (λ led. not-below task.priority p urgent (lower-from p tasks (find_task id tasks) task led)))

not-lower : (p : ℤ) (before : Task) (b : Bool) → (b ≡ true → before.priority <ℤ p) → before.priority ≤ℤ (changed p b before).priority
not-lower p before true lower = let h = lower refl in omega (arith, ints)
not-lower p before false lower = omega (arith, ints)

pub raised-not_below : (p : ℤ) (id other : List ℕ) (tasks : List Task) (before after : Task) → find_task other tasks ≡ Some before
    → find_task other (raised p id tasks) ≡ Some after → before.priority ≤ℤ after.priority
raised-not_below p id other tasks before after here behind =
    subst (λ (t : Task). before.priority ≤ℤ t.priority) (same_Some _ after (sym (found p id other tasks before here) ∙ behind))
    (not-lower p before (is_raised p id tasks before) (lower-from p tasks (find_task id tasks) before))

pub raised-beside : (p : ℤ) (id : List ℕ) (tasks : List Task) → map beside_priority (raised p id tasks) ≡ map beside_priority tasks
raised-beside p id tasks = map-change_meant beside_priority (is_raised p id tasks) (with_priority p) (λ t. refl) tasks

pub raised-ids : (p : ℤ) (id : List ℕ) (tasks : List Task) → ids_of (raised p id tasks) ≡ ids_of tasks
raised-ids p id tasks = map-change_meant (λ (t : Task). t.id) (is_raised p id tasks) (with_priority p) (λ t. refl) tasks

pub raised-numbers : (p : ℤ) (id : List ℕ) (tasks : List Task) → numbers_of (raised p id tasks) ≡ numbers_of tasks
raised-numbers p id tasks = map-change_meant (λ (t : Task). t.number) (is_raised p id tasks) (with_priority p) (λ t. refl) tasks

pub valid-with : (p : ℤ) (s : State) (task : Task) → IsValidTask s.moment task → IsValidTask s.moment (with_priority p task)
valid-with p s task valid = record {
  params = valid.params;
  deps = valid.deps;
  workers = valid.workers;
  stakeholders = valid.stakeholders;
  worker_running = valid.worker_running;
  time_running = valid.time_running;
  batch = valid.batch;
  in_batch = valid.in_batch;
  disabled = valid.disabled;
  failed = valid.failed;
  added = valid.added;
  updated = valid.updated;
  running_since = valid.running_since;
  disabled_at = valid.disabled_at;
  failures = valid.failures;
  policy = valid.policy;
  retry = valid.retry;
  remove = valid.remove;
}

pub valid-raised : (s : State) (p : ℤ) (id : List ℕ) → IsValidState s → IsValidState (record s { tasks = raised p id s.tasks })
valid-raised s p id valid =
    let meant = is_raised p id s.tasks in
    let long : length (raised p id s.tasks) ≡ length s.tasks = length-map s.tasks (λ task. changed p (meant task) task) in
    record {
      moment_in_range = valid.moment_in_range;
      pruned_before = valid.pruned_before;
      next_in_range = valid.next_in_range;
      settings_in_range = valid.settings_in_range;
      few_tasks = omega (arith, long, valid.few_tasks);
      ids_differ = subst (λ ids. IsTrue (are_distinct ids)) (sym (raised-ids p id s.tasks)) valid.ids_differ;
      numbers_rise = ap (all_pairs nat_lt) (raised-numbers p id s.tasks) ∙ valid.numbers_rise;
      numbers_below_next = All-change_meant (λ task. task.number < s.next) meant (with_priority p) (λ task below. below) s.tasks valid.numbers_below_next;
      tasks = All-change_meant (IsValidTask s.moment) meant (with_priority p) (valid-with p s) s.tasks valid.tasks;
      workers_in_order = valid.workers_in_order;
      workers = valid.workers;
      batchers_in_order = valid.batchers_in_order;
      batchers = valid.batchers;
    }
