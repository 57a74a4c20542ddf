use Rattle.std.proofs.Common.{subst}
use Rattle.lg_views.specs.Walking.{IsFresh}
use Rattle.lg_views.proofs.upstream.walked.Goals as goal

pub walk_from-requires-clause-fresh : goal.walk_from-requires-clause-fresh
walk_from-requires-clause-fresh g c = subst (λ n. IsFresh n c.in_ok-walk.walk) c.places.ensures c.in_ok-walk.ensures
