use Rattle.std.proofs.Common.{◌≡◌, OnOk, Some, sym, ap, subst, ◌∙◌}
use Rattle.lg_calls.specs.Tasks.{find_task}
use Rattle.lg_calls.specs.AddTask.Describing.{task_changed}
use Rattle.lg_calls.specs.AddTask.Reporting.{resources_behind, resources_set, with_resources}
use Rattle.lg_plain.proofs.DescribedLemmas.{by_task_some}
use Rattle.lg_plain.proofs.adding.steps.set_resources.Goals as goal

pub returns-in_ok-resources-in-Some : goal.returns-in_ok-resources-in-Some
returns-in_ok-resources-in-Some c =
    let s = c.args.state.now in
    let ask = c.args.ask.now in
    let task = c.in-Some.task.now in
    let found : find_task ask.task_id s.tasks ≡ Some task = ap (find_task ask.task_id) (sym c.as_slice-tasks.ensures) ∙ sym c.in-Some.ensures in
    let resources = c.in_ok-resources-in-Some.ensures ∙ ap (resources_behind ask c.args.before task) c.as_slice-tasks.ensures in
    subst (λ done. OnOk c.change_part.result (c.change_part.new.state ≡ done))
    (ap (λ r. task_changed ask (with_resources r) s) resources ∙ sym (by_task_some ask (resources_set ask c.args.before) s task found))
    c.change_part.ensures
