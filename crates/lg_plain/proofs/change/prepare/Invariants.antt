use Rattle.std.proofs.Common.{take}
use Rattle.lg_plain.specs.Prepared.{IsPrepared}
use Rattle.lg_plain.proofs.change.prepare.Given as goal

abbrev pub invariant-loop-task : goal.invariant-loop-task
invariant-loop-task l = IsPrepared l.change l.meant (take l.task-index l.tasks) l.prepared.items
