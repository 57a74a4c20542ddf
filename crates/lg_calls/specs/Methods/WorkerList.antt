-- The arguments of `worker_list`. This project's own, after Luigi's RPC.
use Rattle.std.specs.Prelude.{codes, true, unwrap_or}
use Rattle.lg_json.specs.Fields.{truth_in}
use Rattle.lg_calls.specs.declared.methods.worker_list.WorkerList.{WorkerList}
use Rattle.lg_calls.specs.Reading.{Reading, ◌>>=◌, field, done}

abbrev pub worker_list : Reading WorkerList
worker_list =
    field truth_in (codes "include_running") >>= λ include_running.
    done (record { include_running = unwrap_or include_running true })
