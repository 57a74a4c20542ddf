use Rattle.std.proofs.Common.{◌≡◌, ◌<◌, length, get_or, sym, ap, ◌∙◌, set, arith}
use Rattle.lg_calls.specs.Methods.DisableWorker.{without_worker}
use Rattle.std.proofs.lemmas.List.Edits.{map_over_more}
use Rattle.lg_plain.proofs.requests.workers.leave_each.Goals as goal

pub loop-task-preserved : goal.loop-task-preserved
loop-task-preserved c =
    let ys = c.loop-task.tasks in
    let i = c.loop-task.task-index in
    let task = get_or ys i c.task-item.result in
    let inside : i < length c.args.tasks.now = omega arith in
    let here : task ≡ get_or ys i task = ap (get_or ys i) c.task-item.is in
    ap (set ys i) c.leave.ensures ∙ map_over_more (without_worker c.args.id.now) c.args.tasks.now ys i task inside c.loop-task.invariant here
