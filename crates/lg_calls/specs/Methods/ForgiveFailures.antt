-- The arguments of `forgive_failures`. This project's own, after Luigi's RPC.
use Rattle.std.specs.Prelude.{codes}
use Rattle.lg_json.specs.Fields.{text_in}
use Rattle.lg_calls.specs.declared.methods.forgive_failures.ForgiveFailures.{ForgiveFailures}
use Rattle.lg_calls.specs.Reading.{Reading, ◌>>=◌, needed, done}

abbrev pub forgive_failures : Reading ForgiveFailures
forgive_failures =
    needed text_in (codes "task_id") >>= λ task_id.
    done (record { task_id = task_id })
