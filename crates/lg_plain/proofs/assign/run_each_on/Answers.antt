use Rattle.std.proofs.Common.{◌≡◌, ◌<◌, cond, length, get_or, ap, ◌∙◌, set, arith}
use Rattle.std.proofs.lemmas.List.Edits.{map_over_more}
use Rattle.lg_calls.specs.Task.{Task}
use Rattle.lg_calls.specs.Tasks.{has_id}
use Rattle.lg_calls.specs.Work.Assigning.{running_since}
use Rattle.lg_plain.proofs.assign.run_each_on.Goals as goal

pub loop-task-preserved : goal.loop-task-preserved
loop-task-preserved c =
    let ys = c.loop-task.tasks in
    let i = c.loop-task.task-index in
    let task = get_or ys i c.task-item.result in
    let inside : i < length c.args.tasks.now = omega arith in
    let here : task ≡ get_or ys i task = ap (get_or ys i) c.task-item.is in
    ap (set ys i) c.run_on.ensures
    ∙ map_over_more (λ (t : Task). cond (has_id c.args.id.now t) (running_since c.args.now t) t) c.args.tasks.now ys i task inside c.loop-task.invariant here
