use Rattle.lg_json.specs.Fields.{int_in}
use Rattle.lg_calls.proofs.ReadingLemmas.{due_field_reads}
use Rattle.lg_calls.proofs.arguments.Arguments.int.Goals as goal

pub returns : goal.returns
returns c = due_field_reads int_in _ _ _ _ _ c.take_int.ensures.answer c.take_int.ensures.ok c.taken.ensures
