use Rattle.lg_json.specs.Fields.{truth_in}
use Rattle.lg_calls.proofs.ReadingLemmas.{due_field_reads}
use Rattle.lg_calls.proofs.arguments.Arguments.truth.Goals as goal

pub returns : goal.returns
returns c = due_field_reads truth_in _ _ _ _ _ c.take_truth.ensures.answer c.take_truth.ensures.ok c.taken.ensures
