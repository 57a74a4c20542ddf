use Rattle.std.proofs.Common.{◌≡◌, [], ◌∷◌, ◌++◌, ap, ◌∙◌, codes}
use Rattle.std.specs.Prelude.{unwrap_or}
use Rattle.lg_calls.specs.Task.{Task}
use Rattle.lg_calls.specs.TaskView.{task_of}
use Rattle.lg_json.specs.Tree.{Tree, str}
use Rattle.lg_calls.specs.Views.DisplayName.{display_name}
use Rattle.lg_calls.specs.Views.Errors.{known_error}
use Rattle.lg_views.specs.Fields.{fields_in}
use Rattle.lg_calls.specs.Views.Trees.{record_of, maybe, by_name}
use Rattle.lg_views.proofs.BuildLemmas.{all_put, put_step, put_step_as}
use Rattle.lg_views.proofs.errors.error_of.Goals as goal

pub returns : goal.returns
unfolding known_error
returns c =
    let task = c.args.task.now in
    let inside : task_of c.task.inside ≡ task = c.task.view_is in
    c.into_out.ensures
    ∙ ap record_of
    (all_put _ _ _ c.new-object.ensures
    (put_step_as _ _ _ _ (codes "displayName") _ (str (display_name task)) (ap str c.in_ok-shown_name.ensures) c.in_ok-put.ensures
    (put_step_as _ _ _ _ (codes "error") _ (str (unwrap_or task.expl [])) (ap str c.expl_of.ensures) c.in_ok-put-2.ensures
    (put_step_as _ _ _ _ (codes "taskFamily") _ (str task.family) (ap (λ (t : Task). str t.family) inside) c.in_ok-put-3.ensures
    (put_step _ _ _ _ (codes "taskId") (str c.args.id.now) c.in_ok-put-4.ensures
    (put_step_as _ _ _ _ (codes "taskModule") _ (maybe str task.«module») (ap (λ (t : Task). maybe str t.«module») inside) c.in_ok-put-5.ensures
    (c.in_ok-put-6.ensures ∙ ap (λ (tree : Tree). fields_in c.put-5.new.self ++ (codes "taskParams", tree) ∷ []) (ap (by_name str) c.as_slice.ensures ∙ ap (λ (t : Task). by_name str t.params) inside))))))))
