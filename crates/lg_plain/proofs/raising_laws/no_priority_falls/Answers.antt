use Rattle.lg_plain.proofs.RaisingLemmas.{raised-not_below}
use Rattle.lg_plain.proofs.raising_laws.no_priority_falls.Goals as goal

pub returns : goal.returns
returns c = raised-not_below
