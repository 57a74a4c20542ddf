-- The step of an engine. This project's own.
use Rattle.std.specs.Prelude.{◌≡◌, ℕ, Result, Ok, Err}
use Rattle.lg_json.specs.Tree.{tree_of}
use Rattle.lg_calls.specs.declared.engine.Reply.{Reply}
use Rattle.lg_calls.specs.declared.engine.StepFault.{StepFault}
use Rattle.lg_calls.specs.declared.engine.StepFault.TheVariants.{Full, NoMemory}
use Rattle.lg_calls.specs.declared.request.Request.{Request}
use Rattle.lg_calls.specs.declared.state.State.{State}
use Rattle.lg_calls.specs.Outcome.{replied, full}
use Rattle.lg_calls.specs.Step.{step}

-- The answer, and the state behind it, are those of the definition of a step; or memory ran out, and the state is as it was.
abbrev pub Steps : State → ℕ → Request → State → Result Reply StepFault → Type 0
Steps old now request new (Ok reply) = step old now request ≡ (new, replied (tree_of reply.0))
Steps old now request new (Err (Full tasks)) = step old now request ≡ (new, full tasks)
Steps old now request new (Err NoMemory) = new ≡ old
