use Rattle.lg_plain.specs.Walking.{rest_of}
use Rattle.lg_plain.proofs.WalkLemmas.{IsWalked}
use Rattle.lg_plain.proofs.raising.walk_from.Given as goal

abbrev pub invariant-loop-place : goal.invariant-loop-place
invariant-loop-place l = IsWalked l.fn.priority l.tasks l.root l.walk

abbrev pub decreases-loop-place : goal.decreases-loop-place
decreases-loop-place l = rest_of l.walk
