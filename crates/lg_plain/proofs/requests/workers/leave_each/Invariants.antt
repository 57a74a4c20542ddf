use Rattle.std.proofs.Common.{◌≡◌, ◌++◌, take, drop, map}
use Rattle.lg_calls.specs.Methods.DisableWorker.{without_worker}
use Rattle.lg_plain.proofs.requests.workers.leave_each.Given as goal

abbrev pub invariant-loop-task : goal.invariant-loop-task
invariant-loop-task l = l.tasks ≡ map (without_worker l.id) (take l.task-index l.initial.tasks) ++ drop l.task-index l.initial.tasks
