use Rattle.lg_params.proofs.TextLemmas.{one_value}
use Rattle.lg_params.proofs.laws.one_value.Goals as goal

pub returns : goal.returns
returns c = one_value
