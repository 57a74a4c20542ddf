use Rattle.std.proofs.Common.{◌≡◌, not, take}
use Rattle.std.specs.Prelude.{filter}
use Rattle.lg_calls.specs.Upstream.{is_hopeless}
use Rattle.lg_views.specs.Lent.{lent}
use Rattle.lg_views.proofs.pending.not_hopeless.Given as goal

abbrev pub invariant-loop-task : goal.invariant-loop-task
invariant-loop-task g l = lent l.found.items ≡ filter (λ task. not (is_hopeless (g.K.Look.state l.state).tasks task)) (lent (take l.task-index l.tasks))
