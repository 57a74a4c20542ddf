use Rattle.std.proofs.Common.{◌≡◌, take}
use Rattle.std.specs.Prelude.{filter}
use Rattle.lg_calls.specs.Look.{tasks_at}
use Rattle.lg_views.specs.Lent.{lent}
use Rattle.lg_views.proofs.picking.picked.Given as goal

abbrev pub invariant-loop-place : goal.invariant-loop-place
invariant-loop-place g l = lent l.found.items ≡ filter (g.W.Wanted.wants l.wanted) (tasks_at (take l.place (g.K.Look.shelf l.state)))
