use Rattle.std.proofs.Common.{ap, ◌∙◌}
use Rattle.lg_calls.specs.Methods.GetWork.{work_reply}
use Rattle.lg_calls.specs.Views.Trees.{record_of}
use Rattle.lg_views.proofs.BuildLemmas.{three_parts}
use Rattle.lg_views.proofs.PlaceLemmas.{CanBeLookedAt-listed}
use Rattle.lg_views.proofs.work.work_reply.Goals as goal

pub put_state-requires : goal.put_state-requires
put_state-requires g c = CanBeLookedAt-listed _ c.requires

pub returns : goal.returns
unfolding work_reply
returns g c =
    c.into_out.ensures
    ∙ ap record_of
    (three_parts _ _ _ _ _ _ _ c.new-object.ensures c.in_ok-put_counts_of.ensures c.in_ok-put_given.ensures c.in_ok-put_state.ensures)
