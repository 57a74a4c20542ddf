use Rattle.std.proofs.Common.{◌≡◌, map, take}
use Rattle.lg_views.specs.Fields.{fields_in}
use Rattle.lg_calls.specs.Views.TaskRecord.{task_record}
use Rattle.lg_views.proofs.records.ByIdShown.show.Given as goal

abbrev pub invariant-loop-task : goal.invariant-loop-task
invariant-loop-task l = fields_in l.object ≡ map (λ task. (task.now.id, task_record task.now)) (take l.task-index l.tasks)
