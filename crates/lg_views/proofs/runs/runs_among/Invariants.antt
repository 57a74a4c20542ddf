use Rattle.std.proofs.Common.{◌≡◌, take}
use Rattle.lg_views.specs.Lent.{lent}
use Rattle.lg_views.specs.Runs.{runs_in, runs_of}
use Rattle.lg_views.proofs.runs.runs_among.Given as goal

abbrev pub invariant-loop-task : goal.invariant-loop-task
invariant-loop-task g l = runs_in l.runs.items ≡ runs_of (g.K.Look.state l.state) (lent (take l.task-index l.tasks))
