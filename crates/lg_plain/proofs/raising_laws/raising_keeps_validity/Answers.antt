use Rattle.lg_plain.proofs.RaisingLemmas.{valid-raised}
use Rattle.lg_plain.proofs.raising_laws.raising_keeps_validity.Goals as goal

pub returns : goal.returns
returns c = valid-raised
