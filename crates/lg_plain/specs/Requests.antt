-- What a request comes to in a scheduler that may run out of memory. This project's own.
use Rattle.std.specs.Prelude.{◌≡◌, Result, Ok, Err}
use Rattle.lg_json.specs.Tree.{tree_of}
use Rattle.lg_calls.specs.declared.engine.Reply.{Reply}
use Rattle.lg_calls.specs.declared.engine.StepFault.{StepFault}
use Rattle.lg_calls.specs.declared.engine.StepFault.TheVariants.{Full, NoMemory}
use Rattle.lg_calls.specs.declared.request.Request.{Request}
use Rattle.lg_calls.specs.declared.state.State.{State}
use Rattle.lg_calls.specs.Outcome.{Outcome, replied, full}
use Rattle.lg_calls.specs.Step.{applied}
use Rattle.lg_base.specs.declared.faults.NoMemory as base

-- The state and the reply are those that are due; or memory ran out, and the state is as it was.
abbrev pub Comes : State → State × Outcome → State → Result Reply base.NoMemory → Type 0
Comes old due new (Ok reply) = due ≡ (new, replied (tree_of reply.0))
Comes old due new (Err out_of_memory) = new ≡ old

-- The state and the reply are those that are due; or memory ran out, and the state is as it was but for its workers.
abbrev pub ComesButForWorkers : State → State × Outcome → State → Result Reply base.NoMemory → Type 0
ComesButForWorkers old due new (Ok reply) = due ≡ (new, replied (tree_of reply.0))
ComesButForWorkers old due new (Err out_of_memory) = record new { workers = old.workers } ≡ old

-- The state and the reply are those that the request comes to. Where the scheduler is full, or memory ran out, the state is as
-- it was.
abbrev pub Applies : State → Request → State → Result Reply StepFault → Type 0
Applies old request new (Ok reply) = applied old request ≡ (new, replied (tree_of reply.0))
Applies old request new (Err (Full tasks)) = (applied old request ≡ (new, full tasks)) × (new ≡ old)
Applies old request new (Err NoMemory) = new ≡ old
