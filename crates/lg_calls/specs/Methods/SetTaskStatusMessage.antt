-- The arguments of `set_task_status_message`. This project's own, after Luigi's RPC.
use Rattle.std.specs.Prelude.{codes}
use Rattle.lg_json.specs.Fields.{text_in}
use Rattle.lg_calls.specs.declared.methods.set_task_status_message.SetTaskStatusMessage.{SetTaskStatusMessage}
use Rattle.lg_calls.specs.Reading.{Reading, ◌>>=◌, needed, done}

abbrev pub set_task_status_message : Reading SetTaskStatusMessage
set_task_status_message =
    needed text_in (codes "task_id") >>= λ task_id.
    needed text_in (codes "status_message") >>= λ status_message.
    done (record { task_id = task_id; status_message = status_message })
