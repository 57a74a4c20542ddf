use Rattle.std.proofs.Common.{◌≡◌, OnOk, Some, sym, ap, subst, ◌∙◌, rules, to_z, of_z, w64}
use Rattle.lg_calls.specs.Raising.{raised}
use Rattle.lg_calls.specs.Task.{Task}
use Rattle.lg_calls.specs.Tasks.{find_task}
use Rattle.lg_plain.proofs.DescribedLemmas.{by_task_some}
use Rattle.lg_plain.proofs.adding.urging.pass_on.Goals as goal

pub returns-in-Some : goal.returns-in-Some
returns-in-Some c =
    let s = c.args.state.now in
    let ask = c.args.ask.now in
    let task = c.in-Some.task.now in
    let found : find_task ask.task_id s.tasks ≡ Some task = ap (find_task ask.task_id) (sym c.as_slice.ensures) ∙ sym c.in-Some.ensures in
    let same : to_z w64 (of_z w64 task.priority) ≡ task.priority = search rules in
    let seen : to_z w64 (of_z w64 c.task.inside.priority) ≡ task.priority = ap (λ (t : Task). to_z w64 (of_z w64 t.priority)) c.task.view_is ∙ same in
    subst (λ done. OnOk c.raise_tasks.result (c.raise_tasks.new.state ≡ done))
    (ap (λ p. record s { tasks = raised p ask.task_id s.tasks }) seen ∙ sym (by_task_some ask (λ t here. record here { tasks = raised t.priority ask.task_id here.tasks }) s task found))
    c.raise_tasks.ensures
