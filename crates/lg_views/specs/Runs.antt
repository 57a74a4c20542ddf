-- Tasks that run, each with the worker that runs it. This project's own.
use Rattle.std.specs.Prelude.{List, map}
use Rattle.std.specs.List.{filter_map}
use Rattle.std.specs.Option.{option_map}
use Rattle.lg_calls.specs.declared.state.State.{State}
use Rattle.lg_calls.specs.Task.{Task}
use Rattle.lg_calls.specs.Views.PendingCounts.{run_shown, runner_of}
use Rattle.lg_json.specs.Tree.{Tree}
use Rattle.lg_views.specs.declared.runs.Run.{Run}

-- what is shown of each
abbrev pub runs_in : List Run → List Tree
runs_in runs = map (λ run. run_shown run.task.now run.runner.now) runs

-- what is shown of those tasks whose worker is known
abbrev pub runs_of : State → List Task → List Tree
runs_of s tasks = filter_map (λ task. option_map (run_shown task) (runner_of s task)) tasks
