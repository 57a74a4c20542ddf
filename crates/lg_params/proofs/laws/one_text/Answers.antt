use Rattle.lg_params.proofs.TextLemmas.{one_text}
use Rattle.lg_params.proofs.laws.one_text.Goals as goal

pub returns : goal.returns
returns c = one_text
