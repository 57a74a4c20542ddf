use Rattle.lg_json.specs.Fields.{texts_in}
use Rattle.lg_calls.proofs.ReadingLemmas.{list_field_reads}
use Rattle.lg_calls.proofs.arguments.Arguments.texts.Goals as goal

pub returns : goal.returns
returns c = list_field_reads texts_in _ _ _ _ _ c.take_texts.ensures.answer c.take_texts.ensures.ok c.listed.ensures
