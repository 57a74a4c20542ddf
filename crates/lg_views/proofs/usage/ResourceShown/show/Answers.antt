use Rattle.std.proofs.Common.{ap, ◌∙◌, codes}
use Rattle.lg_calls.specs.Views.Resources.{resource_tree}
use Rattle.lg_calls.specs.Views.Trees.{record_of, number}
use Rattle.lg_views.proofs.BuildLemmas.{all_put, put_step}
use Rattle.lg_views.proofs.usage.ResourceShown.show.Goals as goal

pub returns : goal.returns
unfolding resource_tree
returns c =
    c.into_out.ensures
    ∙ ap record_of
    (all_put _ _ _ c.new-object.ensures
    (put_step _ _ _ _ (codes "total") (number c.args.self.now.total) c.in_ok-put.ensures
    c.in_ok-put-2.ensures))
