-- The arguments of `mark_as_done`. This project's own, after Luigi's RPC.
use Rattle.std.specs.Prelude.{codes}
use Rattle.lg_json.specs.Fields.{text_in}
use Rattle.lg_calls.specs.declared.methods.mark_as_done.MarkAsDone.{MarkAsDone}
use Rattle.lg_calls.specs.Reading.{Reading, ◌>>=◌, needed, done}

abbrev pub mark_as_done : Reading MarkAsDone
mark_as_done =
    needed text_in (codes "task_id") >>= λ task_id.
    done (record { task_id = task_id })
