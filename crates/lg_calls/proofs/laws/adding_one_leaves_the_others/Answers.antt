use Rattle.lg_calls.proofs.TaskLemmas.{find_task-add_task, find_task-add_other}
use Rattle.lg_calls.proofs.laws.adding_one_leaves_the_others.Goals as goal

pub returns : goal.returns
returns c task tasks = record { itself = find_task-add_task task tasks; others = find_task-add_other task tasks }
