-- The arguments of `get_task_progress_percentage`. This project's own, after Luigi's RPC.
use Rattle.std.specs.Prelude.{codes}
use Rattle.lg_json.specs.Fields.{text_in}
use Rattle.lg_calls.specs.declared.methods.get_task_progress_percentage.GetTaskProgressPercentage.{GetTaskProgressPercentage}
use Rattle.lg_calls.specs.Reading.{Reading, ◌>>=◌, needed, done}

abbrev pub get_task_progress_percentage : Reading GetTaskProgressPercentage
get_task_progress_percentage =
    needed text_in (codes "task_id") >>= λ task_id.
    done (record { task_id = task_id })
