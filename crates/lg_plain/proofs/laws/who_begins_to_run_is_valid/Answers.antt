use Rattle.lg_plain.proofs.ValidityLemmas.{valid-run_by}
use Rattle.lg_plain.proofs.laws.who_begins_to_run_is_valid.Goals as goal

pub returns : goal.returns
returns c = valid-run_by
