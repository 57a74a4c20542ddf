use Rattle.lg_plain.proofs.LawLemmas.{find_task-set_status}
use Rattle.lg_plain.proofs.laws.who_the_scheduler_disabled_stays.Goals as goal

pub returns : goal.returns
returns c = find_task-set_status
