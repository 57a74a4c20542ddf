-- The workers: one is found, heard of, told of, and put at its place in the order. This project's own, after Luigi's central
-- scheduler.
use Rattle.std.specs.Prelude.{ℕ, Bool, false, Option, None, unwrap_or, List, [], find}
use Rattle.std.specs.BTreeSet.{replace_key}
use Rattle.std.specs.Option.{option_map_or}
use Rattle.std.specs.Ordering.{nat_cmp}
use Rattle.std.specs.declared.cmp.Ordering.{Ordering}
use Rattle.std.specs.Cmp.Lexicographic.{slice_cmp}
use Rattle.lg_base.specs.declared.moment.Moment.{Moment}
use Rattle.lg_calls.specs.declared.state.State.{State}
use Rattle.lg_calls.specs.declared.worker.WorkerRec.{WorkerRec}
use Rattle.lg_calls.specs.Order.{is_same}

-- the worker of this id, if it is known
abbrev pub find_worker : List ℕ → List WorkerRec → Option WorkerRec
find_worker id workers = find (λ worker. is_same id worker.id) workers

-- workers stand in the order of their ids' bytes
abbrev pub worker_cmp : WorkerRec → WorkerRec → Ordering
worker_cmp one other = slice_cmp nat_cmp one.id other.id

-- a worker of which nothing was heard before this moment
abbrev pub new_worker : List ℕ → Moment → WorkerRec
new_worker id now = record { id = id; started = now; last_active = now; last_get_work = None; info = []; disabled = false }

-- the worker of this id as it is known, or a new one
abbrev pub known_or_new : List ℕ → Moment → List WorkerRec → WorkerRec
known_or_new id now workers = unwrap_or (find_worker id workers) (new_worker id now)

-- a worker is heard of at a moment; one that isn't known is made
abbrev pub heard_worker : List ℕ → Moment → List WorkerRec → WorkerRec
heard_worker id now workers = record (known_or_new id now workers) { last_active = now }

-- a worker stands at its place in the order, where it replaces the one of its id
abbrev pub put_worker : WorkerRec → State → State
put_worker worker s = record s { workers = replace_key worker_cmp s.workers worker }

-- the worker of an id is touched: it is heard of at the moment of the state
abbrev pub touched : List ℕ → State → State
touched id s = put_worker (heard_worker id s.moment s.workers) s

-- the worker of this id gets no more work; one that isn't known does
abbrev pub is_disabled : List ℕ → List WorkerRec → Bool
is_disabled id workers = option_map_or (λ worker. worker.disabled) (find_worker id workers) false
