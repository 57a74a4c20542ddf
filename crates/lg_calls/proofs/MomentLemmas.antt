-- No request changes the moment of the state.
use Rattle.std.proofs.Common.{◌≡◌, ℕ, ℤ, pos, negsuc, Bool, true, false, cond, is_some, length, List, [], ◌∷◌, fold, Option, Some, None, refl, ◌∙◌}
use Rattle.std.specs.Prelude.{if◌then◌else◌}
use Rattle.std.specs.Option.{option_map_or}
use Rattle.lg_json.specs.Tree.{null}
use Rattle.lg_calls.specs.declared.methods.add_task.AddTask.{AddTask}
use Rattle.lg_calls.specs.declared.methods.get_work.GetWork.{GetWork}
use Rattle.lg_calls.specs.declared.request.Request.{Request}
use Rattle.lg_calls.specs.declared.request.Request.TheVariants as R
use Rattle.lg_calls.specs.declared.state.State.{State}
use Rattle.lg_calls.specs.declared.status.Status.{Status}
use Rattle.lg_calls.specs.declared.status.Status.TheVariants.{Pending, Unknown, Done}
use Rattle.lg_calls.specs.AddTask.Adding.{added, carried, has_no_room, task_added}
use Rattle.lg_calls.specs.AddTask.Describing.{batch_told, by_task, task_changed, task_described, filled}
use Rattle.lg_calls.specs.AddTask.Ending.{ends}
use Rattle.lg_calls.specs.AddTask.Making.{made, with_task}
use Rattle.lg_calls.specs.AddTask.Offering.{as_urgent, offered, offers, policy_with, runnable_by, urged, with_policy}
use Rattle.lg_calls.specs.AddTask.Reporting.{counts, needs_reported, resources_set, run_begun, status_counted, status_of, status_reported, task_reported, with_deps}
use Rattle.lg_calls.specs.AddTask.Wanting.{deps_made, stakes_added, wanted, wants}
use Rattle.lg_calls.specs.Methods.GetWork.{assistant_marked, given_or_again, given_to, heard_asking, newly_chosen, newly_given, nothing_to_do, work_given}
use Rattle.lg_calls.specs.Methods.UpdateResource.{limit_set}
use Rattle.lg_calls.specs.Outcome.{Outcome, full, replied}
use Rattle.lg_calls.specs.Pausing.{set_paused}
use Rattle.lg_calls.specs.Raising.{raised}
use Rattle.lg_calls.specs.Settings.{policy_of}
use Rattle.lg_calls.specs.Settling.{can_be_done, can_be_forgiven, set_where}
use Rattle.lg_calls.specs.Status.{set_status}
use Rattle.lg_calls.specs.Step.{applied}
use Rattle.lg_calls.specs.Task.{Task}
use Rattle.lg_calls.specs.Tasks.{find_task}
use Rattle.lg_calls.specs.Valid.{is_running}
use Rattle.lg_calls.specs.Work.Again.{given_again}
use Rattle.lg_calls.specs.Work.Assigning.{assigned}
use Rattle.lg_calls.specs.Workers.{is_disabled, touched}

-- two states have one moment
abbrev Keeps : State → State → Type 0
Keeps s t = t.moment ≡ s.moment

chosen : (b : Bool) (s t u : State) → Keeps s t → Keeps s u → Keeps s (cond b t u)
chosen true s t u p q = p
chosen false s t u p q = q

by_found : (s : State) (step : Task → State) → ((task : Task) → Keeps s (step task)) → (found : Option Task) → Keeps s (option_map_or step found s)
by_found s step keeps None = refl
by_found s step keeps (Some task) = keeps task

by : (ask : AddTask) (s : State) (step : Task → State → State) → ((task : Task) → Keeps s (step task s)) → Keeps s (by_task ask step s)
by ask s step keeps = by_found s (λ task. step task s) keeps (find_task ask.task_id s.tasks)

with : (status : Status) (priority : ℤ) (s : State) (id : List ℕ) → Keeps s (with_task status priority s id)
with status priority s id = chosen (is_some (find_task id s.tasks)) s s (made status priority id s) refl refl

along : (f : State → List ℕ → State) → ((s : State) (id : List ℕ) → Keeps s (f s id)) → (s : State) (ids : List (List ℕ)) → Keeps s (fold f s ids)
along f keeps s [] = refl
along f keeps s (id ∷ ids) = along f keeps (f s id) ids ∙ keeps s id

-- ---- the steps of `add_task`

keeps-described : (ask : AddTask) (s : State) → Keeps s (task_described ask s)
keeps-described ask s =
    let first = task_changed ask (filled ask) s in
    by ask first (batch_told ask) (λ task. refl)

keeps-counted : (ask : AddTask) (before : Status) (s : State) → Keeps s (status_counted ask before s)
keeps-counted ask before s =
    let after = set_status s ask.task_id (status_of ask.status) in
    chosen (is_running before) s after (task_changed ask (run_begun ask s.moment) after) refl refl

keeps-needs : (ask : AddTask) (before : Status) (s : State) → Keeps s (needs_reported ask before s)
keeps-needs ask before s = by ask (task_changed ask (with_deps ask) s) (resources_set ask before) (λ task. refl)

keeps-reported : (ask : AddTask) (s : State) → Keeps s (task_reported ask s)
keeps-reported ask s =
    by ask s (λ task here. needs_reported ask task.status (status_reported ask task here))
    (λ task. keeps-needs ask task.status (status_reported ask task s)
    ∙ chosen (counts ask task) s (status_counted ask task.status s) s (keeps-counted ask task.status s) refl)

keeps-wanted : (ask : AddTask) (s : State) → Keeps s (wanted ask s)
keeps-wanted ask s =
    let step : Task → State → State = λ task here. stakes_added ask task (deps_made ask task here) in
    chosen (wants ask s) s (by_task ask step s) s
    (by ask s step (λ task. along (with_task Unknown ask.priority) (with Unknown ask.priority) s task.deps)) refl

keeps-urged : (ask : AddTask) (s : State) → Keeps s (urged ask s)
keeps-urged ask s =
    by ask (task_changed ask (as_urgent ask) s) (λ task here. record here { tasks = raised task.priority ask.task_id here.tasks }) (λ task. refl)

keeps-offered : (ask : AddTask) (s : State) → Keeps s (offered ask s)
keeps-offered ask s =
    let policy = policy_with ask.retry_policy (policy_of s.settings) in
    let here = task_changed ask (with_policy policy) (urged ask s) in
    chosen (offers ask s) s (task_changed ask (runnable_by ask.worker) here) here (keeps-urged ask s) (keeps-urged ask s)

keeps-carried : (ask : AddTask) (s : State) → Keeps s (carried ask s)
keeps-carried ask s =
    let one = with_task Pending ask.priority s ask.task_id in
    let two = task_described ask one in
    let three = task_reported ask two in
    keeps-offered ask (wanted ask three) ∙ keeps-wanted ask three ∙ keeps-reported ask two ∙ keeps-described ask one
    ∙ with Pending ask.priority s ask.task_id

keeps-added : (ask : AddTask) (s : State) → Keeps s (added ask s)
keeps-added ask s =
    let here = touched ask.worker s in
    chosen (ends ask here) s here (carried ask here) refl (keeps-carried ask here)

keeps-task_added : (ask : AddTask) (s : State) → Keeps s (task_added ask s).0
keeps-task_added ask s = by_room (has_no_room s (added ask s)) where
  by_room : (b : Bool) → Keeps s (cond {A = State × Outcome} b (s, full (length s.tasks)) (added ask s, replied null)).0
  by_room true = refl
  by_room false = keeps-added ask s

-- ---- the other requests

keeps-set_where : (meant : Status → Bool) (status : Status) (id : List ℕ) (s : State) → Keeps s (set_where meant status id s)
keeps-set_where meant status id s =
    by_found s (λ task. if meant task.status then set_status s id status else s)
    (λ task. chosen (meant task.status) s (set_status s id status) s refl refl) (find_task id s.tasks)

keeps-set_paused : (paused : Bool) (s : State) → Keeps s (set_paused paused s)
keeps-set_paused paused s = chosen s.settings.pause_enabled s (record s { paused = paused }) s refl refl

keeps-limit_set : (s : State) (resource : List ℕ) (amount : ℤ) → Keeps s (limit_set s resource amount).0
keeps-limit_set s resource (pos n) = refl
keeps-limit_set s resource (negsuc n) = refl

keeps-newly_given : (ask : GetWork) (s : State) → Keeps s (newly_given ask s).0
keeps-newly_given ask s = by_found s (λ task. assigned ask.worker task.id s) (λ task. refl) (newly_chosen ask s)

keeps-given_or_again : (ask : GetWork) (s : State) (choice : Option Task) → Keeps s (given_or_again ask s choice).0
keeps-given_or_again ask s None = keeps-newly_given ask s
keeps-given_or_again ask s (Some task) = refl

keeps-marked : (ask : GetWork) (s : State) → Keeps s (assistant_marked ask s)
keeps-marked ask s = chosen ask.assistant s (assistant_marked (record ask { assistant = true }) s) s refl refl

keeps-work_given : (ask : GetWork) (s : State) → Keeps s (work_given ask s).0
unfolding work_given
keeps-work_given ask s = by_disabled (is_disabled ask.worker here.workers) where
  here : State
  here = heard_asking ask s

  marked : State
  marked = assistant_marked ask here

  by_disabled : (b : Bool) → Keeps s (cond {A = State × Outcome} b (here, replied (nothing_to_do ask.worker here)) (given_to ask marked)).0
  by_disabled true = refl
  by_disabled false = keeps-given_or_again ask marked (given_again ask marked) ∙ keeps-marked ask here

-- what a request does leaves the moment
pub applied-moment : (s : State) (request : Request) → Keeps s (applied s request).0
applied-moment s (R.AddTask ask) = keeps-task_added ask s
applied-moment s (R.ForgiveFailures ask) = keeps-set_where can_be_forgiven Pending ask.task_id s
applied-moment s (R.GetWork ask) = keeps-work_given ask s
applied-moment s (R.MarkAsDone ask) = keeps-set_where can_be_done Done ask.task_id s
applied-moment s R.Pause = keeps-set_paused true s
applied-moment s R.Unpause = keeps-set_paused false s
applied-moment s (R.UpdateResource ask) = keeps-limit_set s ask.resource ask.amount
applied-moment s _ = refl
