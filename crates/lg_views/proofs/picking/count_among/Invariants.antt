use Rattle.std.proofs.Common.{◌≡◌, ◌≤◌, take}
use Rattle.std.specs.Prelude.{count_by}
use Rattle.lg_views.specs.Lent.{lent}
use Rattle.lg_views.proofs.picking.count_among.Given as goal

abbrev pub invariant-loop-task : goal.invariant-loop-task
invariant-loop-task g l = record { count : l.count ≡ count_by (g.W.Wanted.wants l.wanted) (lent (take l.task-index l.tasks)); small : l.count ≤ l.task-index }
