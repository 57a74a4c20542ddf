-- The arguments of `re_enable_task`. This project's own, after Luigi's RPC.
use Rattle.std.specs.Prelude.{codes}
use Rattle.lg_json.specs.Fields.{text_in}
use Rattle.lg_calls.specs.declared.methods.re_enable_task.ReEnableTask.{ReEnableTask}
use Rattle.lg_calls.specs.Reading.{Reading, ◌>>=◌, needed, done}

abbrev pub re_enable_task : Reading ReEnableTask
re_enable_task =
    needed text_in (codes "task_id") >>= λ task_id.
    done (record { task_id = task_id })
