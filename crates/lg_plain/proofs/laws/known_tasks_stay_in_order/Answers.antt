use Rattle.lg_plain.proofs.AddedLemmas.{ids-added}
use Rattle.lg_plain.proofs.laws.known_tasks_stay_in_order.Goals as goal

pub returns : goal.returns
returns c = ids-added
