-- The arguments of `get_task_status_message`. This project's own, after Luigi's RPC.
use Rattle.std.specs.Prelude.{codes}
use Rattle.lg_json.specs.Fields.{text_in}
use Rattle.lg_calls.specs.declared.methods.get_task_status_message.GetTaskStatusMessage.{GetTaskStatusMessage}
use Rattle.lg_calls.specs.Reading.{Reading, ◌>>=◌, needed, done}

abbrev pub get_task_status_message : Reading GetTaskStatusMessage
get_task_status_message =
    needed text_in (codes "task_id") >>= λ task_id.
    done (record { task_id = task_id })
