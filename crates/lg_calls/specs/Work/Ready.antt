-- Which tasks wait for nothing but a worker. This project's own, after Luigi's central scheduler.
use Rattle.std.specs.Prelude.{ℕ, Bool, false, ◌&&◌, List}
use Rattle.std.specs.List.{list_all}
use Rattle.std.specs.Option.{option_map_or}
use Rattle.lg_calls.specs.declared.status.Status.TheVariants.{Pending, Done}
use Rattle.lg_calls.specs.Status.{is_status}
use Rattle.lg_calls.specs.Task.{Task}
use Rattle.lg_calls.specs.Tasks.{find_task}

-- the task of an id is known, and DONE
abbrev pub is_done : List Task → List ℕ → Bool
is_done tasks id = option_map_or (λ (task : Task). is_status Done task.status) (find_task id tasks) false

-- a task is PENDING, and each of its dependencies is DONE
unfoldable pub is_ready : List Task → Task → Bool
is_ready tasks task = is_status Pending task.status && list_all (is_done tasks) task.deps
