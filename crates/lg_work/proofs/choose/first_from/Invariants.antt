use Rattle.std.proofs.Common.{◌≡◌, drop}
use Rattle.lg_views.specs.Lent.{lent}
use Rattle.lg_work.specs.Choosing.{first_from}
use Rattle.lg_work.specs.Reserving.{reserved_in, IsWithin}
use Rattle.lg_work.proofs.choose.first_from.Given as goal

abbrev pub invariant-loop-task : goal.invariant-loop-task
invariant-loop-task l = record {
  rest : first_from l.ask l.state (reserved_in l.reserved) (drop l.task-index (lent l.tasks)) ≡ first_from l.ask l.state (reserved_in l.initial.reserved) (lent l.tasks);
  within : IsWithin l.task-index (reserved_in l.reserved);
}
