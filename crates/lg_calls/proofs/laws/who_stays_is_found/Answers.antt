use Rattle.lg_calls.proofs.TaskLemmas.{find_task-keep_tasks}
use Rattle.lg_calls.proofs.laws.who_stays_is_found.Goals as goal

pub returns : goal.returns
returns c stays id tasks apart = find_task-keep_tasks stays id tasks apart
