use Rattle.std.proofs.Common.{ap, ◌∙◌}
use Rattle.lg_calls.specs.Methods.GetWork.{nothing_to_do}
use Rattle.lg_calls.specs.Views.Trees.{record_of}
use Rattle.lg_views.proofs.BuildLemmas.{three_parts}
use Rattle.lg_views.proofs.PlaceLemmas.{CanBeLookedAt-listed}
use Rattle.lg_views.proofs.work.nothing_to_do.Goals as goal

pub put_state-requires : goal.put_state-requires
put_state-requires g c = CanBeLookedAt-listed _ c.requires

pub returns : goal.returns
unfolding nothing_to_do
returns g c =
    c.into_out.ensures
    ∙ ap record_of
    (three_parts _ _ _ _ _ _ _ c.new-object.ensures c.in_ok-put_no_counts.ensures c.in_ok-put_given.ensures c.in_ok-put_state.ensures)
