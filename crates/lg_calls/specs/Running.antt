-- What running adds to a task. This project's own, after Luigi's central scheduler.
use Rattle.std.specs.Prelude.{ℕ, List, Option, Some}
use Rattle.lg_base.specs.declared.moment.Moment.{Moment}
use Rattle.lg_calls.specs.Task.{Task}

-- a task is run: by a worker, from now on, in a batch or alone
abbrev pub run_by : List ℕ → Moment → Option (List ℕ) → Task → Task
run_by worker now batch task = record task { worker_running = Some worker; time_running = Some now; batch = batch }
