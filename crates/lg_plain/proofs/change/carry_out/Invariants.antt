use Rattle.std.proofs.Common.{◌≡◌, ◌++◌, take, drop}
use Rattle.lg_calls.specs.Tasks.{change_meant}
use Rattle.lg_plain.specs.Prepared.{changed_by, is_meant_by, IsPrepared}
use Rattle.lg_plain.proofs.change.carry_out.Given as goal

abbrev pub invariant-loop-task : goal.invariant-loop-task
invariant-loop-task l =
    (l.tasks ≡ change_meant (is_meant_by l.meant) (changed_by l.change) (take l.task-index l.initial.tasks) ++ drop l.task-index l.initial.tasks)
    × IsPrepared l.change l.meant (drop l.task-index l.initial.tasks) l.prepared.items
