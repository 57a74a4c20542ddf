use Rattle.std.proofs.Common.{◌≡◌, drop}
use Rattle.std.specs.List.{list_all}
use Rattle.lg_snapshot.specs.Validity.{passes_in}
use Rattle.lg_snapshot.proofs.task_validity.tasks_pass.Given as goal

abbrev pub invariant-loop-task : goal.invariant-loop-task
invariant-loop-task l = list_all (passes_in l.now l.next) l.tasks ≡ list_all (passes_in l.now l.next) (drop l.task-index l.tasks)
