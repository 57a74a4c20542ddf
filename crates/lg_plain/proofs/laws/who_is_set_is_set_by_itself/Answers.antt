use Rattle.lg_plain.proofs.LawLemmas.{find_task-itself}
use Rattle.lg_plain.proofs.laws.who_is_set_is_set_by_itself.Goals as goal

pub returns : goal.returns
returns c = find_task-itself
