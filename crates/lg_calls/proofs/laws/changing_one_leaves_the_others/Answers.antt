use Rattle.lg_calls.proofs.TaskLemmas.{find_task-change_task, find_task-change_other}
use Rattle.lg_calls.proofs.laws.changing_one_leaves_the_others.Goals as goal

pub returns : goal.returns
returns c id change keeps tasks = record {
  itself = find_task-change_task id change keeps tasks;
  others = find_task-change_other id change keeps tasks;
}
