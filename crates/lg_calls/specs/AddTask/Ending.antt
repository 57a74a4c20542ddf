-- Where `add_task` ends behind the touch of its worker. This project's own, after Luigi's central scheduler.
use Rattle.std.specs.Prelude.{ℕ, ◌+◌, nat_lt, Bool, true, false, not, ◌&&◌, ◌||◌, Option, Some, None}
use Rattle.lg_base.specs.declared.moment.Moment.{Moment}
use Rattle.lg_calls.specs.declared.methods.add_task.AddTask.{AddTask}
use Rattle.lg_calls.specs.declared.state.State.{State}
use Rattle.lg_calls.specs.declared.status.Reported.{Reported}
use Rattle.lg_calls.specs.declared.status.Reported.TheVariants.{Pending}
use Rattle.lg_calls.specs.declared.status.Status.TheVariants as S
use Rattle.lg_calls.specs.Status.{is_status}
use Rattle.lg_calls.specs.Task.{Task}
use Rattle.lg_calls.specs.Tasks.{find_task}
use Rattle.lg_calls.specs.Workers.{is_disabled}

-- a disabled worker makes no task, and reports of one that is known only while it is RUNNING
abbrev pub is_shut_out : Bool → Option Task → Bool
is_shut_out disabled None = disabled
is_shut_out disabled (Some task) = disabled && not (is_status S.Running task.status)

-- a task that is done isn't taken for pending again before the cooldown has passed, in milliseconds
abbrev pub is_cooling : ℕ → Moment → Reported → Option Task → Bool
is_cooling cooldown now Pending (Some task) = is_status S.Done task.status && nat_lt now.0 (task.updated.0 + cooldown)
is_cooling cooldown now _ _ = false

-- the step ends
abbrev pub ends : AddTask → State → Bool
ends ask s =
    let found = find_task ask.task_id s.tasks in
    is_shut_out (is_disabled ask.worker s.workers) found || is_cooling s.settings.stable_done_cooldown s.moment ask.status found
