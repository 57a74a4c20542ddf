use Rattle.lg_json.specs.Fields.{pairs_in}
use Rattle.lg_calls.proofs.ReadingLemmas.{list_field_reads}
use Rattle.lg_calls.proofs.arguments.Arguments.pairs.Goals as goal

pub returns-clause-read : goal.returns-clause-read
returns-clause-read c = list_field_reads pairs_in _ _ _ _ _ c.take_pairs.ensures.answer c.take_pairs.ensures.ok c.listed.ensures
