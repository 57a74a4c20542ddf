use Rattle.lg_calls.specs.Upstream.{waits_for}
use Rattle.lg_views.specs.Walking.{rest_of}
use Rattle.lg_views.proofs.WalkLemmas.{IsWalked}
use Rattle.lg_views.proofs.upstream.walk_from.Given as goal

abbrev pub invariant-loop-place : goal.invariant-loop-place
invariant-loop-place g l = IsWalked waits_for (g.K.Look.shelf l.state) l.task l.walk

abbrev pub decreases-loop-place : goal.decreases-loop-place
decreases-loop-place g l = rest_of l.walk
