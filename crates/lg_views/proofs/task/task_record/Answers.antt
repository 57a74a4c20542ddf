use Rattle.std.proofs.Common.{ap, ◌∙◌}
use Rattle.lg_calls.specs.Views.Trees.{record_of}
use Rattle.lg_calls.specs.Views.TaskRecord.{about_fields, enabling_fields, running_fields, task_record}
use Rattle.lg_views.proofs.BuildLemmas.{three_parts}
use Rattle.lg_views.proofs.task.task_record.Goals as goal

pub returns : goal.returns
unfolding task_record
returns c =
    let task = c.args.task.now in
    c.into_out.ensures
    ∙ ap record_of (three_parts _ _ _ _ (about_fields task) (enabling_fields task) (running_fields task) c.new-object.ensures c.in_ok-put_about.ensures c.in_ok-put_enabling.ensures c.in_ok-put_running.ensures)
