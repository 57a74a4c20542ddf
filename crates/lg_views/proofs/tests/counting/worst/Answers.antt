use Rattle.lg_views.proofs.PlaceLemmas.{CanBeLookedAt-listed}
use Rattle.lg_views.proofs.tests.counting.worst.Goals as goal

pub upstream_status-requires : goal.upstream_status-requires
upstream_status-requires c = CanBeLookedAt-listed _ c.in_ok-state.ensures
