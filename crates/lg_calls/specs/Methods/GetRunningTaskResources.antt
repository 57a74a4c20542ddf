-- The arguments of `get_running_task_resources`. This project's own, after Luigi's RPC.
use Rattle.std.specs.Prelude.{codes}
use Rattle.lg_json.specs.Fields.{text_in}
use Rattle.lg_calls.specs.declared.methods.get_running_task_resources.GetRunningTaskResources.{GetRunningTaskResources}
use Rattle.lg_calls.specs.Reading.{Reading, ◌>>=◌, needed, done}

abbrev pub get_running_task_resources : Reading GetRunningTaskResources
get_running_task_resources =
    needed text_in (codes "task_id") >>= λ task_id.
    done (record { task_id = task_id })
