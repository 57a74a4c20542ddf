-- The arguments of `disable_worker`, and what it does. This project's own, after Luigi's RPC.
use Rattle.std.specs.Prelude.{codes, ℕ, true, not, List, filter, map}
use Rattle.lg_json.specs.Fields.{text_in}
use Rattle.lg_calls.specs.declared.methods.disable_worker.DisableWorker.{DisableWorker}
use Rattle.lg_calls.specs.Reading.{Reading, ◌>>=◌, needed, done}
use Rattle.lg_calls.specs.declared.state.State.{State}
use Rattle.lg_calls.specs.Order.{is_same}
use Rattle.lg_calls.specs.Task.{Task}
use Rattle.lg_calls.specs.Workers.{known_or_new, put_worker}

abbrev pub disable_worker : Reading DisableWorker
disable_worker =
    needed text_in (codes "worker") >>= λ worker.
    done (record { worker = worker })

-- a worker isn't among those that can run the task any more; who wants the task stays
abbrev pub without_worker : List ℕ → Task → Task
without_worker worker task = record task { workers = filter (λ other. not (is_same worker other)) task.workers }

-- a worker gets no more work, and can run no task any more; one that isn't known is made
abbrev pub worker_disabled : List ℕ → State → State
worker_disabled worker s =
    let here = put_worker (record (known_or_new worker s.moment s.workers) { disabled = true }) s in
    record here { tasks = map (without_worker worker) here.tasks }
