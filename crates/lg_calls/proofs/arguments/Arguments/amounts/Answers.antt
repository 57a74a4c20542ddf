use Rattle.lg_json.specs.Fields.{amounts_in}
use Rattle.lg_calls.proofs.ReadingLemmas.{field_reads}
use Rattle.lg_calls.proofs.arguments.Arguments.amounts.Goals as goal

pub returns : goal.returns
returns c = field_reads amounts_in _ _ _ _ _ c.take_amounts.ensures.answer c.take_amounts.ensures.ok c.taken.ensures
