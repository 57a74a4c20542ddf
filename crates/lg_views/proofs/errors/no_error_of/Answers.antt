use Rattle.std.proofs.Common.{[], ap, ◌∙◌, codes}
use Rattle.lg_json.specs.Tree.{str}
use Rattle.lg_calls.specs.Views.Errors.{unknown_error}
use Rattle.lg_calls.specs.Views.Trees.{record_of}
use Rattle.lg_views.proofs.BuildLemmas.{all_put, put_step}
use Rattle.lg_views.proofs.errors.no_error_of.Goals as goal

pub returns : goal.returns
unfolding unknown_error
returns c =
    c.into_out.ensures
    ∙ ap record_of
    (all_put _ _ _ c.new-object.ensures
    (put_step _ _ _ _ (codes "error") (str []) c.in_ok-put.ensures
    c.in_ok-put-2.ensures))
