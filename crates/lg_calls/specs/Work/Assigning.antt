-- A task is given to a worker. This project's own, after Luigi's central scheduler.
use Rattle.std.specs.Prelude.{ℕ, Some, None, List}
use Rattle.lg_base.specs.declared.moment.Moment.{Moment}
use Rattle.lg_calls.specs.declared.state.State.{State}
use Rattle.lg_calls.specs.declared.status.Status.TheVariants.{Running}
use Rattle.lg_calls.specs.Running.{run_by}
use Rattle.lg_calls.specs.Status.{set_status}
use Rattle.lg_calls.specs.Task.{Task}
use Rattle.lg_calls.specs.Tasks.{change_task}

-- a task of the state is changed
abbrev pub with_changed : List ℕ → (Task → Task) → State → State
with_changed id change s = record s { tasks = change_task id change s.tasks }

-- the task of an id becomes RUNNING, by a worker, from the moment of the state on
abbrev pub assigned : List ℕ → List ℕ → State → State
assigned worker id s = with_changed id (run_by worker s.moment None) (set_status s id Running)

-- the task of an id runs from the moment of the state on, and stays as it is else
abbrev pub running_since : Moment → Task → Task
running_since now task = record task { time_running = Some now }

abbrev pub assigned_again : List ℕ → State → State
assigned_again id s = with_changed id (running_since s.moment) s
