use Rattle.std.proofs.Common.{◌≡◌, take}
use Rattle.std.specs.Prelude.{filter}
use Rattle.lg_views.specs.Lent.{lent}
use Rattle.lg_views.proofs.picking.picked_among.Given as goal

abbrev pub invariant-loop-task : goal.invariant-loop-task
invariant-loop-task g l = lent l.found.items ≡ filter (g.W.Wanted.wants l.wanted) (lent (take l.task-index l.tasks))
