use Rattle.std.proofs.Common.{◌≡◌, ◌++◌, take, drop}
use Rattle.lg_calls.specs.Tasks.{change_meant}
use Rattle.lg_plain.proofs.adding.walk.change_each.Given as goal

abbrev pub invariant-loop-task : goal.invariant-loop-task
invariant-loop-task g l =
    l.tasks ≡ change_meant (g.C.TaskChange.is_meant l.change) (g.C.TaskChange.changed l.change) (take l.task-index l.initial.tasks) ++ drop l.task-index l.initial.tasks
