-- The arguments of `add_worker`, and what it does. This project's own, after Luigi's RPC.
use Rattle.std.specs.Prelude.{codes, ℕ, List, fold}
use Rattle.lg_json.specs.Fields.{text_in}
use Rattle.lg_calls.specs.declared.methods.add_worker.AddWorker.{AddWorker}
use Rattle.lg_calls.specs.Infos.{infos_in}
use Rattle.lg_calls.specs.Reading.{Reading, ◌>>=◌, needed, done}
use Rattle.std.specs.BTreeSet.{replace_key}
use Rattle.std.specs.Ordering.{nat_cmp}
use Rattle.std.specs.declared.cmp.Ordering.{Ordering}
use Rattle.std.specs.Cmp.Lexicographic.{slice_cmp}
use Rattle.lg_calls.specs.declared.info.Info.{Info}
use Rattle.lg_calls.specs.declared.state.State.{State}
use Rattle.lg_calls.specs.declared.worker.WorkerRec.{WorkerRec}
use Rattle.lg_calls.specs.Workers.{known_or_new, put_worker}

abbrev pub add_worker : Reading AddWorker
add_worker =
    needed text_in (codes "worker") >>= λ worker.
    needed infos_in (codes "info") >>= λ info.
    done (record { worker = worker; info = info })

-- what is told stands in the order of the names' bytes
abbrev pub info_cmp : List ℕ × Info → List ℕ × Info → Ordering
info_cmp one other = slice_cmp nat_cmp one.0 other.0

-- each pair is put into what is known of the worker, where it replaces what was told under its name
abbrev pub informed : List (List ℕ × Info) → WorkerRec → WorkerRec
informed infos worker = record worker { info = fold (replace_key info_cmp) worker.info infos }

-- a worker tells of itself; one that isn't known is made
abbrev pub worker_added : AddWorker → State → State
worker_added ask s = put_worker (informed ask.info (known_or_new ask.worker s.moment s.workers)) s
