-- The arguments of `set_task_progress_percentage`. This project's own, after Luigi's RPC.
use Rattle.std.specs.Prelude.{codes}
use Rattle.lg_json.specs.Fields.{text_in, int_in}
use Rattle.lg_calls.specs.declared.methods.set_task_progress_percentage.SetTaskProgressPercentage.{SetTaskProgressPercentage}
use Rattle.lg_calls.specs.Reading.{Reading, ◌>>=◌, needed, done}

abbrev pub set_task_progress_percentage : Reading SetTaskProgressPercentage
set_task_progress_percentage =
    needed text_in (codes "task_id") >>= λ task_id.
    needed int_in (codes "progress_percentage") >>= λ progress_percentage.
    done (record { task_id = task_id; progress_percentage = progress_percentage })
