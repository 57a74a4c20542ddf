use Rattle.std.proofs.Common.{◌≡◌, take}
use Rattle.lg_calls.specs.Look.{tasks_at}
use Rattle.lg_views.specs.Counts.{counts_of}
use Rattle.lg_views.proofs.counts.counted.Given as goal

abbrev pub invariant-loop-place : goal.invariant-loop-place
invariant-loop-place g l = l.counts ≡ counts_of (tasks_at (take l.place (g.K.Look.shelf l.state)))
