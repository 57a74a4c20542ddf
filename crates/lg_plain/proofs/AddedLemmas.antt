-- What `add_task` leaves of the list of tasks: each id stays at its place with its number, and those of new tasks come behind.
use Rattle.std.proofs.Common.{◌≡◌, ℕ, ℤ, ◌+◌, ◌<◌, ltb, Bool, true, false, cond, not, ◌&&◌, ◌||◌, IsTrue, is_some, List, [], ◌∷◌, ◌++◌, map, fold, Option, Some, None, append_assoc, refl, sym, ap, ◌∙◌}
use Rattle.std.specs.Option.{option_map_or}
use Rattle.std.proofs.lemmas.Bool.{false≢true, lt-ltb}
use Rattle.std.proofs.lemmas.List.{map_push, append-nil}
use Rattle.std.proofs.lemmas.List.Elements.{All-append, All-cons, All-nil}
use Rattle.lg_calls.specs.declared.methods.add_task.AddTask.{AddTask}
use Rattle.lg_calls.specs.declared.state.State.{State}
use Rattle.lg_calls.specs.declared.status.Status.{Status}
use Rattle.lg_calls.specs.declared.status.Status.TheVariants.{Pending, Done, Unknown}
use Rattle.lg_calls.specs.declared.status.Reported.TheVariants as R
use Rattle.lg_calls.specs.Settings.{policy_of}
use Rattle.lg_calls.specs.Order.{are_distinct}
use Rattle.lg_calls.specs.Raising.{is_raised, raised, with_priority}
use Rattle.lg_calls.specs.Status.{along_with, is_meant, is_status, runs_in, set_alone, set_status}
use Rattle.lg_calls.specs.Task.{Task}
use Rattle.lg_calls.specs.Tasks.{ids_of, has_id, find_task, change_meant, have_distinct_ids}
use Rattle.lg_calls.specs.Valid.{is_running}
use Rattle.lg_calls.specs.AddTask.Adding.{added, carried}
use Rattle.lg_calls.specs.AddTask.Describing.{batch_meant, batch_told, by_task, task_described, filled, replaced, replaces_url, task_changed, told}
use Rattle.lg_calls.specs.AddTask.Ending.{ends, is_cooling, is_shut_out}
use Rattle.lg_calls.specs.AddTask.Making.{made, new_task, with_task}
use Rattle.lg_calls.specs.AddTask.Offering.{offered, offers, policy_with, as_urgent, runnable_by, urged, with_policy}
use Rattle.lg_calls.specs.AddTask.Reporting.{run_begun, counts, needs_reported, task_reported, resources_behind, resources_set, status_counted, status_of, status_reported, with_deps, with_resources}
use Rattle.lg_calls.specs.Workers.{is_disabled, touched}
use Rattle.lg_calls.specs.AddTask.Wanting.{deps_made, has_id_of, stakes_added, wanted, wanted_by, wants}
use Rattle.lg_plain.specs.Laws.{numbered, stakeholders_of, GainsNobody, GoesOn}
use Rattle.lg_plain.proofs.DistinctLemmas.{distinct-append}
use Rattle.lg_plain.proofs.KeptLemmas.{KeepsPlace, place-begun, place-set_alone, stakeholders-begun, stakeholders-set_alone}
use Rattle.lg_plain.proofs.ListLemmas.{map-change_meant}

on : {X : Type 0} (xs ys : List X) → ys ≡ xs → GoesOn xs ys
on xs ys e = ([], e ∙ sym (append-nil xs))

on-on : {X : Type 0} (xs ys zs : List X) → GoesOn xs ys → GoesOn ys zs → GoesOn xs zs
on-on xs ys zs first second =
    (first.0 ++ second.0, second.1 ∙ ap (λ l. l ++ second.0) first.1 ∙ append_assoc xs first.0 second.0)

nobody : (xs ys : List Task) → stakeholders_of ys ≡ stakeholders_of xs → GainsNobody xs ys
nobody xs ys e = ([], e ∙ sym (append-nil (stakeholders_of xs)), All-nil (λ (who : List (List ℕ)). who ≡ []))

nobody-on : (xs ys zs : List Task) → GainsNobody xs ys → GainsNobody ys zs → GainsNobody xs zs
nobody-on xs ys zs first second = (
  first.0 ++ second.0,
  second.1 ∙ ap (λ l. l ++ second.0) first.1 ∙ append_assoc (stakeholders_of xs) first.0 second.0,
  All-append (λ (who : List (List ℕ)). who ≡ []) first.0 second.0 first.2 second.2,
)

-- The ids of a state go on in another, and so do the numbers beside them; where ids differ they still do; the workers stay.
-- Where the worker of the call is disabled nobody becomes a stakeholder.
record Keeps (disabled : Bool) (s t : State) : Type 0 where
  ids : GoesOn (ids_of s.tasks) (ids_of t.tasks)
  numbers : GoesOn (map numbered s.tasks) (map numbered t.tasks)
  distinct : IsTrue (have_distinct_ids s.tasks) → IsTrue (have_distinct_ids t.tasks)
  workers : t.workers ≡ s.workers
  wanted : disabled ≡ true → GainsNobody s.tasks t.tasks

same : (d : Bool) (s : State) → Keeps d s s
same d s = record {
  ids = on (ids_of s.tasks) (ids_of s.tasks) refl;
  numbers = on (map numbered s.tasks) (map numbered s.tasks) refl;
  distinct = λ here. here;
  workers = refl;
  wanted = λ is. nobody s.tasks s.tasks refl;
}

chained : (d : Bool) (s t u : State) → Keeps d s t → Keeps d t u → Keeps d s u
chained d s t u first second = record {
  ids = on-on (ids_of s.tasks) (ids_of t.tasks) (ids_of u.tasks) first.ids second.ids;
  numbers = on-on (map numbered s.tasks) (map numbered t.tasks) (map numbered u.tasks) first.numbers second.numbers;
  distinct = λ here. second.distinct (first.distinct here);
  workers = second.workers ∙ first.workers;
  wanted = λ is. nobody-on s.tasks t.tasks u.tasks (first.wanted is) (second.wanted is);
}

chosen : (d b : Bool) (s t u : State) → Keeps d s t → Keeps d s u → Keeps d s (cond b t u)
chosen d true s t u p q = p
chosen d false s t u p q = q

-- a worker that isn't disabled may become a stakeholder
apart : (d : Bool) (s t : State) → (d ≡ true → ⊥) → Keeps false s t → Keeps d s t
apart d s t not keeps = record {
  ids = keeps.ids;
  numbers = keeps.numbers;
  distinct = keeps.distinct;
  workers = keeps.workers;
  wanted = λ is. absurd (not is);
}

changed-as : (d : Bool) (s : State) (meant : Task → Bool) (change : Task → Task) → KeepsPlace change
    → (d ≡ true → GainsNobody s.tasks (change_meant meant change s.tasks)) → Keeps d s (record s { tasks = change_meant meant change s.tasks })
changed-as d s meant change place wants =
    let ids_same : ids_of (change_meant meant change s.tasks) ≡ ids_of s.tasks = map-change_meant (λ (t : Task). t.id) meant change place.id s.tasks in
    record {
      ids = on (ids_of s.tasks) (ids_of (change_meant meant change s.tasks)) ids_same;
      numbers = on (map numbered s.tasks) (map numbered (change_meant meant change s.tasks))
          (map-change_meant numbered meant change (λ task. λ i. (place.id task i, place.number task i)) s.tasks);
      distinct = λ here. ap are_distinct ids_same ∙ here;
      workers = refl;
      wanted = wants;
    }

changed : (d : Bool) (s : State) (meant : Task → Bool) (change : Task → Task) → KeepsPlace change
    → ((task : Task) → (change task).stakeholders ≡ task.stakeholders) → Keeps d s (record s { tasks = change_meant meant change s.tasks })
changed d s meant change place wants =
    changed-as d s meant change place
    (λ is. nobody s.tasks (change_meant meant change s.tasks) (map-change_meant (λ (t : Task). t.stakeholders) meant change wants s.tasks))

by_found : (d : Bool) (s : State) (step : Task → State → State) → ((task : Task) → Keeps d s (step task s)) → (found : Option Task)
    → Keeps d s (option_map_or (λ task. step task s) found s)
by_found d s step keeps None = same d s
by_found d s step keeps (Some task) = keeps task

by : (d : Bool) (ask : AddTask) (s : State) (step : Task → State → State) → ((task : Task) → Keeps d s (step task s)) → Keeps d s (by_task ask step s)
by d ask s step keeps = by_found d s step keeps (find_task ask.task_id s.tasks)

with : (d : Bool) (status : Status) (priority : ℤ) (s : State) (id : List ℕ) → Keeps d s (with_task status priority s id)
with d status priority s id = by_known (find_task id s.tasks) refl
  where
    by_known : (found : Option Task) → find_task id s.tasks ≡ found → Keeps d s (cond (is_some found) s (made status priority id s))
    by_known None none =
        let new = new_task status priority id s in
        record {
          ids = (id ∷ [], map_push (λ (t : Task). t.id) s.tasks new);
          numbers = ((id, s.next) ∷ [], map_push numbered s.tasks new);
          distinct = λ here. distinct-append s.tasks new here none;
          workers = refl;
          wanted = λ is. (
            [] ∷ [],
            map_push (λ (t : Task). t.stakeholders) s.tasks new,
            All-cons (λ (who : List (List ℕ)). who ≡ []) [] [] refl (All-nil (λ (who : List (List ℕ)). who ≡ [])),
          );
        }
    by_known (Some task) known = same d s

along : (d : Bool) (f : State → List ℕ → State) → ((s : State) (id : List ℕ) → Keeps d s (f s id)) → (s : State) (ids : List (List ℕ)) → Keeps d s (fold f s ids)
along d f keeps s [] = same d s
along d f keeps s (id ∷ ids) = chained d s (f s id) (fold f (f s id) ids) (keeps s id) (along d f keeps (f s id) ids)

-- ---- the steps

keeps-described : (d : Bool) (ask : AddTask) (s : State) → Keeps d s (task_described ask s)
keeps-described d ask s =
    let first = task_changed ask (filled ask) s in
    let second = by_task ask (batch_told ask) first in
    chained d s first (task_described ask s) (changed d s (has_id ask.task_id) (filled ask) (record { id = λ t. refl; number = λ t. refl }) (λ task. refl))
    (chained d first second (task_described ask s)
    (by d ask first (batch_told ask)
    (λ task. changed d first (runs_in (batch_meant ask task)) (told ask (replaces_url ask task)) (record { id = λ t. refl; number = λ t. refl }) (λ t. refl)))
    (changed d second (has_id ask.task_id) (replaced ask) (record { id = λ t. refl; number = λ t. refl }) (λ task. refl)))

keeps-set : (d : Bool) (s : State) (id : List ℕ) (status : Status) → Keeps d s (set_status s id status)
keeps-set d s id status =
    let delay = s.settings.retry_delay in
    changed d s (is_meant id (along_with status id s.tasks)) (set_alone delay s.moment status)
    (place-set_alone delay s.moment status) (stakeholders-set_alone delay s.moment status)

keeps-counted : (d : Bool) (ask : AddTask) (before : Status) (s : State) → Keeps d s (status_counted ask before s)
keeps-counted d ask before s =
    let after = set_status s ask.task_id (status_of ask.status) in
    let set = keeps-set d s ask.task_id (status_of ask.status) in
    chosen d (is_running before) s after (task_changed ask (run_begun ask s.moment) after) set
    (chained d s after (task_changed ask (run_begun ask s.moment) after) set
    (changed d after (has_id ask.task_id) (run_begun ask s.moment) (place-begun ask s.moment) (stakeholders-begun ask s.moment)))

keeps-needs : (d : Bool) (ask : AddTask) (before : Status) (s : State) → Keeps d s (needs_reported ask before s)
keeps-needs d ask before s =
    let first = task_changed ask (with_deps ask) s in
    chained d s first (needs_reported ask before s) (changed d s (has_id ask.task_id) (with_deps ask) (record { id = λ t. refl; number = λ t. refl }) (λ task. refl))
    (by d ask first (resources_set ask before)
    (λ task. changed d first (has_id ask.task_id) (with_resources (resources_behind ask before task first.tasks)) (record { id = λ t. refl; number = λ t. refl }) (λ t. refl)))

keeps-reported : (d : Bool) (ask : AddTask) (s : State) → Keeps d s (task_reported ask s)
keeps-reported d ask s =
    by d ask s (λ task here. needs_reported ask task.status (status_reported ask task here))
    (λ task. chained d s (status_reported ask task s) (needs_reported ask task.status (status_reported ask task s))
    (chosen d (counts ask task) s (status_counted ask task.status s) s (keeps-counted d ask task.status s) (same d s))
    (keeps-needs d ask task.status (status_reported ask task s)))

-- who wants a task isn't disabled
free : (disabled assistant : Bool) → (not disabled && not assistant) ≡ true → disabled ≡ true → ⊥
free true assistant wants is = false≢true wants
free false assistant wants is = false≢true is

abbrev staked : AddTask → Task → State → State
staked ask task here = stakes_added ask task (deps_made ask task here)

keeps-wanted : (d : Bool) (ask : AddTask) (s : State) → (d ≡ true → is_disabled ask.worker s.workers ≡ true) → Keeps d s (wanted ask s)
keeps-wanted d ask s out = by_wants (wants ask s) refl
  where
    by_wants : (b : Bool) → wants ask s ≡ b → Keeps d s (cond b (by_task ask (staked ask) s) s)
    by_wants true is =
        apart d s (by_task ask (staked ask) s) (λ disabled. free (is_disabled ask.worker s.workers) ask.assistant is (out disabled))
        (by false ask s (staked ask)
        (λ task. chained false s (deps_made ask task s) (staked ask task s)
        (along false (with_task Unknown ask.priority) (with false Unknown ask.priority) s task.deps)
        (changed-as false (deps_made ask task s) (has_id_of (task.id ∷ task.deps)) (wanted_by ask.worker) (record { id = λ t. refl; number = λ t. refl })
        (λ no. absurd (false≢true no)))))
    by_wants false is = same d s

keeps-urged : (d : Bool) (ask : AddTask) (s : State) → Keeps d s (urged ask s)
keeps-urged d ask s =
    let first = task_changed ask (as_urgent ask) s in
    chained d s first (urged ask s) (changed d s (has_id ask.task_id) (as_urgent ask) (record { id = λ t. refl; number = λ t. refl }) (λ task. refl))
    (by d ask first (λ task here. record here { tasks = raised task.priority ask.task_id here.tasks })
    (λ task. changed d first (is_raised task.priority ask.task_id first.tasks) (with_priority task.priority) (record { id = λ t. refl; number = λ t. refl }) (λ t. refl)))

keeps-offered : (d : Bool) (ask : AddTask) (s : State) → Keeps d s (offered ask s)
keeps-offered d ask s =
    let policy = policy_with ask.retry_policy (policy_of s.settings) in
    let first = urged ask s in
    let second = task_changed ask (with_policy policy) first in
    let third = task_changed ask (runnable_by ask.worker) second in
    let so_far : Keeps d s second =
    chained d s first second (keeps-urged d ask s) (changed d first (has_id ask.task_id) (with_policy policy) (record { id = λ t. refl; number = λ t. refl }) (λ task. refl)) in
    chosen d (offers ask s) s third second
    (chained d s second third so_far (changed d second (has_id ask.task_id) (runnable_by ask.worker) (record { id = λ t. refl; number = λ t. refl }) (λ task. refl))) so_far

-- what is there when the task is offered, which was made with this priority where it wasn't known
abbrev before_offer : AddTask → ℤ → State → State
before_offer ask priority s = wanted ask (task_reported ask (task_described ask (with_task Pending priority s ask.task_id)))

keeps-before : (d : Bool) (ask : AddTask) (priority : ℤ) (s : State) → (d ≡ true → is_disabled ask.worker s.workers ≡ true) → Keeps d s (before_offer ask priority s)
keeps-before d ask priority s out =
    let one = with_task Pending priority s ask.task_id in
    let two = task_described ask one in
    let three = task_reported ask two in
    let so_far : Keeps d s three =
    chained d s one three (with d Pending priority s ask.task_id) (chained d one two three (keeps-described d ask one) (keeps-reported d ask two)) in
    chained d s three (wanted ask three) so_far
    (keeps-wanted d ask three (λ is. ap (is_disabled ask.worker) so_far.workers ∙ out is))

-- ids differ when the task is offered
pub distinct_before : (ask : AddTask) (priority : ℤ) (s : State) → IsTrue (have_distinct_ids s.tasks) → IsTrue (have_distinct_ids (before_offer ask priority s).tasks)
distinct_before ask priority s here = (keeps-before false ask priority s (λ no. absurd (false≢true no))).distinct here

-- and when what the task waits for is raised
pub distinct_urgent : (ask : AddTask) (s : State) → IsTrue (have_distinct_ids s.tasks) → IsTrue (have_distinct_ids (task_changed ask (as_urgent ask) s).tasks)
distinct_urgent ask s here = (changed false s (has_id ask.task_id) (as_urgent ask) (record { id = λ t. refl; number = λ t. refl }) (λ task. refl)).distinct here

-- the whole behind the touch
keeps-added : (ask : AddTask) (s : State) → Keeps (is_disabled ask.worker (touched ask.worker s).workers) (touched ask.worker s) (added ask s)
keeps-added ask s =
    let here = touched ask.worker s in
    let d = is_disabled ask.worker here.workers in
    let before = before_offer ask ask.priority here in
    chosen d (ends ask here) here here (carried ask here) (same d here)
    (chained d here before (carried ask here) (keeps-before d ask ask.priority here (λ is. is)) (keeps-offered d ask before))

-- the known tasks stay at their places, and new ones come behind
pub ids-added : (ask : AddTask) (s : State) → GoesOn (ids_of s.tasks) (ids_of (added ask s).tasks)
ids-added ask s = (keeps-added ask s).ids

-- each with its number
pub numbers-added : (ask : AddTask) (s : State) → GoesOn (map numbered s.tasks) (map numbered (added ask s).tasks)
numbers-added ask s = (keeps-added ask s).numbers

-- a disabled worker becomes no stakeholder
pub nobody-added : (ask : AddTask) (s : State) → is_disabled ask.worker (touched ask.worker s).workers ≡ true → GainsNobody s.tasks (added ask s).tasks
nobody-added ask s disabled = (keeps-added ask s).wanted disabled

-- ---- where the step ends

over : (ask : AddTask) (s : State) → ends ask (touched ask.worker s) ≡ true → (added ask s).tasks ≡ s.tasks
over ask s ended = ap (λ b. (cond b (touched ask.worker s) (carried ask (touched ask.worker s))).tasks) ended

-- a disabled worker makes no task
pub shut_out-added : (ask : AddTask) (s : State) → is_disabled ask.worker (touched ask.worker s).workers ≡ true
    → find_task ask.task_id s.tasks ≡ None → (added ask s).tasks ≡ s.tasks
shut_out-added ask s disabled none =
    let cooldown = s.settings.stable_done_cooldown in
    let shut : (found : Option Task) → Bool = is_shut_out (is_disabled ask.worker (touched ask.worker s).workers) in
    over ask s
    (ap (λ found. shut found || is_cooling cooldown s.moment ask.status found) none
    ∙ ap (λ d. d || is_cooling cooldown s.moment ask.status None) disabled)

or_true : (b : Bool) → (b || true) ≡ true
or_true true = refl
or_true false = refl

-- what is done stays within the cooldown
pub cooling-added : (ask : AddTask) (s : State) (task : Task) → ask.status ≡ R.Pending → find_task ask.task_id s.tasks ≡ Some task
    → task.status ≡ Done → s.moment.0 < task.updated.0 + s.settings.stable_done_cooldown → (added ask s).tasks ≡ s.tasks
cooling-added ask s task pending found done within =
    let cooldown = s.settings.stable_done_cooldown in
    let shut : (found : Option Task) → Bool = is_shut_out (is_disabled ask.worker (touched ask.worker s).workers) in
    over ask s
    (ap (λ here. shut here || is_cooling cooldown s.moment ask.status here) found
    ∙ ap (λ status. shut (Some task) || is_cooling cooldown s.moment status (Some task)) pending
    ∙ ap (λ status. shut (Some task) || (is_status Done status && ltb s.moment.0 (task.updated.0 + cooldown))) done
    ∙ ap (λ b. shut (Some task) || b) (lt-ltb s.moment.0 (task.updated.0 + cooldown) within)
    ∙ or_true (shut (Some task)))
