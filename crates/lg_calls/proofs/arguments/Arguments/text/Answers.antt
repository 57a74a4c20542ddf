use Rattle.lg_json.specs.Fields.{text_in}
use Rattle.lg_calls.proofs.ReadingLemmas.{due_field_reads}
use Rattle.lg_calls.proofs.arguments.Arguments.text.Goals as goal

pub returns : goal.returns
returns c = due_field_reads text_in _ _ _ _ _ c.take_text.ensures.answer c.take_text.ensures.ok c.taken.ensures
