-- A step keeps a state valid.
use Rattle.std.proofs.Common.{◌≡◌, ℕ, ◌^◌, ◌<◌, ◌≤◌, Bool, true, false, cond, IsTrue, length, List, Option, Some, None, Result, Ok, Err, ℤ, pos, negsuc, refl, sym, ap, subst, ◌∙◌, arith}
use Rattle.std.specs.Prelude.{max}
use Rattle.lg_base.specs.Amounts.{AmountsByName}
use Rattle.lg_base.specs.declared.moment.Moment.{Moment}
use Rattle.lg_json.specs.Tree.{null}
use Rattle.lg_calls.specs.declared.engine.Reply.{Reply}
use Rattle.lg_calls.specs.declared.engine.StepFault.{StepFault}
use Rattle.lg_calls.specs.declared.engine.StepFault.TheVariants.{Full, NoMemory}
use Rattle.lg_calls.specs.declared.methods.add_task.AddTask.{AddTask}
use Rattle.lg_calls.specs.declared.methods.get_work.GetWork.{GetWork}
use Rattle.lg_calls.specs.declared.request.Request.{Request}
use Rattle.lg_calls.specs.declared.request.Request.TheVariants as R
use Rattle.lg_calls.specs.declared.state.State.{State}
use Rattle.lg_calls.specs.declared.status.Status.TheVariants.{Pending, Done}
use Rattle.lg_calls.specs.AddTask.Adding.{added, has_no_room, task_added}
use Rattle.lg_calls.specs.Engine.{Steps}
use Rattle.lg_calls.specs.Laws.{IdsStayDistinct, NumbersKeepRising}
use Rattle.lg_calls.specs.Methods.AddTask.{add_task_in_range}
use Rattle.lg_calls.specs.Methods.UpdateResource.{limit_set}
use Rattle.lg_calls.specs.Outcome.{Outcome, full, replied}
use Rattle.lg_calls.specs.Pausing.{set_paused}
use Rattle.lg_calls.specs.Pruning.{asks_for_pruning, is_due, pruned, pruned_if_due, pruned_since}
use Rattle.lg_calls.specs.Request.{IsInRange}
use Rattle.lg_calls.specs.Settling.{can_be_done, can_be_forgiven}
use Rattle.lg_calls.specs.Step.{applied, begun, step, where_replied}
use Rattle.lg_calls.specs.Task.{Task}
use Rattle.lg_calls.specs.Tasks.{have_distinct_ids, have_rising_numbers}
use Rattle.lg_calls.specs.Valid.{IsValidState, NotLater}
use Rattle.lg_calls.specs.Work.Candidate.{first_candidate}
use Rattle.lg_calls.specs.Work.Laws.{IsFirst, StandByRank}
use Rattle.lg_calls.specs.Work.Rank.{by_rank}
use Rattle.lg_calls.proofs.CallerLemmas.{begun_by, state-rise}
use Rattle.lg_plain.specs.Requests.{Applies}
use Rattle.lg_plain.proofs.GivenLemmas.{valid-work_given}
use Rattle.lg_plain.proofs.OutcomeLemmas.{AddingKeeps}
use Rattle.lg_plain.proofs.RequestLemmas.{valid-touched, valid-worker_added, valid-worker_disabled}
use Rattle.lg_plain.proofs.SettlingLemmas.{SettingKeeps, valid-set_where}

-- ---- the beginning of a step

risen : (when : Option Moment) (old now : Moment) → old.0 ≤ now.0 → NotLater when old → NotLater when now
risen None old now rises holds = tt
risen (Some moment) old now rises holds = omega arith

-- the last pruning isn't later than the moment
not_later : (last : Option Moment) (s : State) (now : Moment) (asked : Bool) → s.moment.0 ≤ now.0 → NotLater s.pruned s.moment
    → NotLater (pruned_since last s now.0 asked).pruned now
not_later None s now asked rises holds = omega arith
not_later (Some last) s now asked rises holds = by_choice (is_due last now.0 asked) where
  by_choice : (due : Bool) → NotLater (cond due (pruned s now.0) s).pruned now
  by_choice true = omega arith
  by_choice false = risen s.pruned s.moment now rises holds

highest : (a b c : ℕ) → a < c → b < c → max a b < c
highest a b c below too = omega (arith, below, too)

at_least : (a b : ℕ) → a ≤ max a b
at_least a b = omega arith

pub valid-begun : (s : State) (handed : ℕ) (request : Request) → handed < 2 ^ 62 → IsValidState s → IsValidState (begun s handed request)
valid-begun s handed request in_time valid =
    let now : Moment = record { 0 = max s.moment.0 handed } in
    let last = (pruned_if_due s now.0 request).pruned in
    let rises = at_least s.moment.0 handed in
    subst IsValidState (sym (begun_by s handed request now refl))
    (state-rise s now last s.limits rises (highest s.moment.0 handed (2 ^ 62) valid.moment_in_range in_time)
    (not_later s.pruned s now (asks_for_pruning s.settings request) rises valid.pruned_before) valid)

-- ---- the requests

with_limits : (s : State) (limits : AmountsByName) → IsValidState s → IsValidState (record s { limits = limits })
with_limits s limits valid = state-rise s s.moment s.pruned limits (omega arith) valid.moment_in_range valid.pruned_before valid

valid-limit_set : (base s : State) (resource : List ℕ) (amount : ℤ) → IsValidState s → IsValidState (where_replied base (limit_set s resource amount)).0
valid-limit_set base s resource (pos n) valid = with_limits s _ valid
valid-limit_set base s resource (negsuc n) valid = valid

with_paused : (s : State) (paused : Bool) → IsValidState s → IsValidState (record s { paused = paused })
with_paused s paused valid = record {
  moment_in_range = valid.moment_in_range;
  pruned_before = valid.pruned_before;
  next_in_range = valid.next_in_range;
  settings_in_range = valid.settings_in_range;
  few_tasks = valid.few_tasks;
  ids_differ = valid.ids_differ;
  numbers_rise = valid.numbers_rise;
  numbers_below_next = valid.numbers_below_next;
  tasks = valid.tasks;
  workers_in_order = valid.workers_in_order;
  workers = valid.workers;
  batchers_in_order = valid.batchers_in_order;
  batchers = valid.batchers;
}

valid-set_paused : (paused : Bool) (s : State) → IsValidState s → IsValidState (set_paused paused s)
valid-set_paused paused s valid = by_choice s.settings.pause_enabled where
  by_choice : (b : Bool) → IsValidState (cond b (record s { paused = paused }) s)
  by_choice true = with_paused s paused valid
  by_choice false = valid

module _
    (setting : SettingKeeps)
    (adding : AddingKeeps)
    (distinct : (tasks : List Task) → IsTrue (have_distinct_ids tasks) → IdsStayDistinct tasks)
    (rising : (tasks : List Task) → IsTrue (have_rising_numbers tasks) → NumbersKeepRising tasks)
    (ranks : (tasks : List Task) → IsTrue (have_rising_numbers tasks) → StandByRank tasks (by_rank tasks))
    (first : (ask : GetWork) (s : State) (task : Task) → first_candidate ask s ≡ Some task → IsFirst ask s task) where
  valid-task_added : (base s : State) (ask : AddTask) → IsTrue (add_task_in_range ask) → IsValidState base → IsValidState s
      → IsValidState (where_replied base (task_added ask s)).0
  valid-task_added base s ask in_range there valid = by_room (has_no_room s (added ask s)) refl where
    by_room : (b : Bool) → has_no_room s (added ask s) ≡ b
        → IsValidState (where_replied base (cond {A = State × Outcome} b (s, full (length s.tasks)) (added ask s, replied null))).0
    by_room true none = there
    by_room false room = adding ask s valid in_range room

  valid-applied : (base s : State) (request : Request) → IsInRange request → IsValidState base → IsValidState s
      → IsValidState (where_replied base (applied s request)).0
  valid-applied base s (R.AddTask ask) in_range there valid = valid-task_added base s ask in_range there valid
  valid-applied base s (R.AddWorker ask) in_range there valid = valid-worker_added ask s valid
  valid-applied base s R.AnnounceSchedulingFailure in_range there valid = valid
  valid-applied base s (R.CountPending ask) in_range there valid = valid
  valid-applied base s (R.DisableWorker ask) in_range there valid = valid-worker_disabled distinct rising ask.worker s valid
  valid-applied base s (R.FetchError ask) in_range there valid = valid
  valid-applied base s (R.ForgiveFailures ask) in_range there valid = valid-set_where setting can_be_forgiven Pending ask.task_id s refl valid
  valid-applied base s (R.GetWork ask) in_range there valid = valid-work_given ranks rising first base ask s valid
  valid-applied base s R.HasTaskHistory in_range there valid = valid
  valid-applied base s R.IsPauseEnabled in_range there valid = valid
  valid-applied base s R.IsPaused in_range there valid = valid
  valid-applied base s (R.MarkAsDone ask) in_range there valid = valid-set_where setting can_be_done Done ask.task_id s refl valid
  valid-applied base s R.Pause in_range there valid = valid-set_paused true s valid
  valid-applied base s (R.Ping ask) in_range there valid = valid-touched ask.worker s valid
  valid-applied base s R.ResourceList in_range there valid = valid
  valid-applied base s R.Resources in_range there valid = valid
  valid-applied base s R.StatusCounts in_range there valid = valid
  valid-applied base s R.Stop in_range there valid = valid
  valid-applied base s (R.TaskSearch ask) in_range there valid = valid
  valid-applied base s R.Unpause in_range there valid = valid-set_paused false s valid
  valid-applied base s (R.UpdateResource ask) in_range there valid = valid-limit_set base s ask.resource ask.amount valid
  valid-applied base s (R.UpdateResources ask) in_range there valid = with_limits s _ valid
  valid-applied base s _ in_range there valid = there

  pub valid-step : (s : State) (now : ℕ) (request : Request) → IsValidState s → now < 2 ^ 62 → IsInRange request → IsValidState (step s now request).0
  valid-step s now request valid in_time in_range =
      valid-applied s (begun s now request) request in_range valid (valid-begun s now request in_time valid)

-- ---- a step by what its request comes to

-- the state is as before a step that didn't do its work: only the moment and the last pruning were others
restored : (s : State) (handed : ℕ) (request : Request) → record (begun s handed request) { moment = s.moment; pruned = s.pruned } ≡ s
restored s handed request =
    ap (λ (there : State). record there { moment = s.moment; pruned = s.pruned }) (begun_by s handed request (record { 0 = max s.moment.0 handed }) refl)

-- the state behind a step: that behind its request, or with the moment and the last pruning that it had
abbrev pub left_by : State → State → Result Reply StepFault → State
left_by old new (Ok reply) = new
left_by old new (Err fault) = record new { moment = old.moment; pruned = old.pruned }

pub steps_by : (s new : State) (handed : ℕ) (request : Request) (r : Result Reply StepFault) → Applies (begun s handed request) request new r
    → Steps s handed request (left_by s new r) r
steps_by s new handed request (Ok reply) applies = ap (where_replied s) applies
steps_by s new handed request (Err (Full tasks)) applies =
    ap (where_replied s) applies.0
    ∙ ap (λ (there : State). (there, full tasks)) (sym (ap (λ (there : State). record there { moment = s.moment; pruned = s.pruned }) applies.1 ∙ restored s handed request))
steps_by s new handed request (Err NoMemory) applies =
    ap (λ (there : State). record there { moment = s.moment; pruned = s.pruned }) applies ∙ restored s handed request

-- an outcome of a step is valid
pub valid-outcome : (s new : State) (now : ℕ) (request : Request) (r : Result Reply StepFault) → Steps s now request new r → IsValidState (step s now request).0
    → IsValidState s → IsValidState new
valid-outcome s new now request (Ok reply) steps there valid = subst IsValidState (ap (λ (after : State × Outcome). after.0) steps) there
valid-outcome s new now request (Err (Full tasks)) steps there valid = subst IsValidState (ap (λ (after : State × Outcome). after.0) steps) there
valid-outcome s new now request (Err NoMemory) steps there valid = subst IsValidState (sym steps) valid
