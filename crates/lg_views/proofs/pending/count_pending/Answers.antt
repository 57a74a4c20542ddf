use Rattle.std.proofs.Common.{ap, ◌∙◌}
use Rattle.lg_calls.specs.Views.PendingCounts.{pending_counts}
use Rattle.lg_calls.specs.Views.Trees.{record_of}
use Rattle.lg_views.proofs.BuildLemmas.{two_parts}
use Rattle.lg_views.proofs.PlaceLemmas.{CanBeLookedAt-listed}
use Rattle.lg_views.proofs.pending.count_pending.Goals as goal

pub put_state-requires : goal.put_state-requires
put_state-requires g c = CanBeLookedAt-listed _ c.requires

pub returns : goal.returns
unfolding pending_counts
returns g c =
    c.into_out.ensures ∙ ap record_of (two_parts _ _ _ _ _ c.new-object.ensures c.in_ok-put_counts_of.ensures c.in_ok-put_state.ensures)
