use Rattle.std.proofs.Common.{◌≡◌, ◌++◌, take, drop}
use Rattle.lg_calls.specs.Tasks.{change_task}
use Rattle.lg_calls.specs.Work.Assigning.{running_since}
use Rattle.lg_plain.proofs.assign.run_each_on.Given as goal

abbrev pub invariant-loop-task : goal.invariant-loop-task
invariant-loop-task l = l.tasks ≡ change_task l.id (running_since l.now) (take l.task-index l.initial.tasks) ++ drop l.task-index l.initial.tasks
