-- What is said to a message, as the model's answer. This project's own.
use Rattle.lg_json.specs.Tree.{tree_of}
use Rattle.lg_calls.specs.Outcome as outcome
use Rattle.luigid.specs.declared.said.Said.{Said}
use Rattle.luigid.specs.declared.said.Said.TheVariants.{Replied, Full, NotCalled, NoMemory}
use Rattle.luigid.specs.Transcript.{Answer, stepped, not_called, no_memory}

abbrev pub answer_of : Said → Answer
answer_of (Replied reply last) = stepped (outcome.replied (tree_of reply.0)) last
answer_of (Full tasks last) = stepped (outcome.full tasks) last
answer_of (NotCalled reason) = not_called reason
answer_of NoMemory = no_memory
