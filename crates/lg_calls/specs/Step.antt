-- What one request does to the state, and what it comes to. This project's own, after Luigi's central scheduler.
use Rattle.std.specs.Prelude.{ℕ, max, true, false, codes}
use Rattle.lg_json.specs.Tree.{null, truth}
use Rattle.lg_calls.specs.declared.request.Request.{Request}
use Rattle.lg_calls.specs.declared.state.State.{State}
use Rattle.lg_calls.specs.AddTask.Adding.{task_added}
use Rattle.lg_calls.specs.Methods.AddWorker.{worker_added}
use Rattle.lg_calls.specs.Methods.DisableWorker.{worker_disabled}
use Rattle.lg_calls.specs.Methods.GetWork.{work_given}
use Rattle.lg_calls.specs.Methods.Ping.{no_messages}
use Rattle.lg_calls.specs.Methods.UpdateResource.{limit_set}
use Rattle.lg_calls.specs.Methods.UpdateResources.{limits_set}
use Rattle.lg_calls.specs.Outcome.{Outcome, replied, full, not_built}
use Rattle.lg_calls.specs.Pausing.{set_paused, yes_or_no}
use Rattle.lg_calls.specs.Pruning.{pruned_if_due}
use Rattle.lg_calls.specs.Settling.{failures_forgiven, marked_as_done}
use Rattle.lg_calls.specs.Views.Counts.{status_counts}
use Rattle.lg_calls.specs.Views.Errors.{error_record}
use Rattle.lg_calls.specs.Views.PendingCounts.{pending_counts}
use Rattle.lg_calls.specs.Views.ResourceList.{resource_list}
use Rattle.lg_calls.specs.Views.Resources.{resources}
use Rattle.lg_calls.specs.Views.TaskSearch.{task_search}
use Rattle.lg_calls.specs.Workers.{touched}

-- what a request does to the state of its moment, one case a method that is defined
abbrev pub applied : State → Request → State × Outcome
applied s (Request.AddTask ask) = task_added ask s
applied s (Request.AddWorker ask) = (worker_added ask s, replied null)
applied s Request.AnnounceSchedulingFailure = (s, replied null)
applied s (Request.CountPending ask) = (s, replied (pending_counts ask.worker s))
applied s (Request.DisableWorker ask) = (worker_disabled ask.worker s, replied null)
applied s (Request.FetchError ask) = (s, replied (error_record s ask.task_id))
applied s (Request.ForgiveFailures ask) = failures_forgiven ask.task_id s
applied s (Request.GetWork ask) = work_given ask s
applied s Request.HasTaskHistory = (s, replied (truth false))
applied s Request.IsPauseEnabled = (s, replied (yes_or_no (codes "enabled") s.settings.pause_enabled))
applied s Request.IsPaused = (s, replied (yes_or_no (codes "paused") s.paused))
applied s (Request.MarkAsDone ask) = marked_as_done ask.task_id s
applied s Request.Pause = (set_paused true s, replied null)
applied s (Request.Ping ask) = (touched ask.worker s, replied no_messages)
applied s Request.ResourceList = (s, replied (resource_list s))
applied s Request.Resources = (s, replied (resources s))
applied s Request.StatusCounts = (s, replied (status_counts s))
applied s Request.Stop = (s, replied null)
applied s (Request.TaskSearch ask) = (s, replied (task_search s ask.task_str))
applied s Request.Unpause = (set_paused false s, replied null)
applied s (Request.UpdateResource ask) = limit_set s ask.resource ask.amount
applied s (Request.UpdateResources ask) = (limits_set ask.limits s, replied null)
applied s _ = (s, not_built)

-- the state at the moment of a step, which is the later one of the moment handed in and the state's own; pruned if that is due
abbrev pub begun : State → ℕ → Request → State
begun state now request =
    let at = max state.moment.0 now in pruned_if_due (record state { moment = record { 0 = at } }) at request

-- where there is no reply the state stays as it was
abbrev pub where_replied : State → State × Outcome → State × Outcome
where_replied before (after, replied tree) = (after, replied tree)
where_replied before (after, full tasks) = (before, full tasks)
where_replied before (after, not_built) = (before, not_built)

-- one step: the moment and the pruning first, then the request
abbrev pub step : State → ℕ → Request → State × Outcome
step state now request = where_replied state (applied (begun state now request) request)
