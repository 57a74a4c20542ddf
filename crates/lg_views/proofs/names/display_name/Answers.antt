use Rattle.std.proofs.Common.{ap, ◌∙◌}
use Rattle.lg_calls.specs.TaskView.{task_of}
use Rattle.lg_calls.specs.Views.DisplayName.{params_text, display_name}
use Rattle.lg_views.proofs.NameLemmas.{named_in}
use Rattle.lg_views.proofs.names.display_name.Goals as goal

pub returns : goal.returns
unfolding display_name
returns c =
    let task = task_of c.task.inside in
    c.from_string.ensures.same
    ∙ (named_in _ _ _ _ _ task.family (params_text task.params) c.new-text.ensures.bytes
    (rw c.as_str.ensures.same at c.in_ok-push_str.ensures.bytes) c.in_ok-push_str-2.ensures.bytes
    (rw c.as_slice.ensures at c.in_ok-push_params.ensures) c.in_ok-push_str-3.ensures.bytes
    ∙ ap display_name c.task.view_is)
