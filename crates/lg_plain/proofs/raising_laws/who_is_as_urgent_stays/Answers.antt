use Rattle.lg_plain.proofs.RaisingLemmas.{raised-as_urgent}
use Rattle.lg_plain.proofs.raising_laws.who_is_as_urgent_stays.Goals as goal

pub returns : goal.returns
returns c = raised-as_urgent
