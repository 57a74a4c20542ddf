use Rattle.lg_plain.proofs.LawLemmas.{find_task-enable}
use Rattle.lg_plain.proofs.laws.enabling_leaves_the_others.Goals as goal

pub returns : goal.returns
returns c = find_task-enable
