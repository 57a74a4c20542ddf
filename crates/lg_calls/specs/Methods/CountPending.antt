-- The arguments of `count_pending`. This project's own, after Luigi's RPC.
use Rattle.std.specs.Prelude.{codes}
use Rattle.lg_json.specs.Fields.{text_in}
use Rattle.lg_calls.specs.declared.methods.count_pending.CountPending.{CountPending}
use Rattle.lg_calls.specs.Reading.{Reading, ◌>>=◌, needed, done}

abbrev pub count_pending : Reading CountPending
count_pending =
    needed text_in (codes "worker") >>= λ worker.
    done (record { worker = worker })
