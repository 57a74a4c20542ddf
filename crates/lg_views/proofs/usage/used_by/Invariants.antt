use Rattle.std.proofs.Common.{◌≡◌, ◌≤◌, ◌*◌, take}
use Rattle.lg_views.specs.Lent.{lent}
use Rattle.lg_calls.specs.Use.{use_by}
use Rattle.lg_views.proofs.usage.used_by.Given as goal

abbrev pub invariant-loop-task : goal.invariant-loop-task
invariant-loop-task l = record { sum : l.used ≡ use_by (lent (take l.task-index l.tasks)) l.name; small : l.used ≤ l.task-index * 4294967295 }
