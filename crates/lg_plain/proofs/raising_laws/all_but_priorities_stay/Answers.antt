use Rattle.lg_plain.proofs.RaisingLemmas.{raised-beside, raised-ids, raised-numbers}
use Rattle.lg_plain.proofs.raising_laws.all_but_priorities_stay.Goals as goal

pub returns-clause-beside : goal.returns-clause-beside
returns-clause-beside c = raised-beside

pub returns-clause-ids : goal.returns-clause-ids
returns-clause-ids c = raised-ids

pub returns-clause-numbers : goal.returns-clause-numbers
returns-clause-numbers c = raised-numbers
