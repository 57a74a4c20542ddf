use Rattle.std.proofs.Common.{◌≡◌, ◌<◌, length, get_or, true, false, refl, sym, ap, ◌∙◌, arith}
use Rattle.lg_plain.proofs.PreparedLemmas.{set-change_meant}
use Rattle.lg_plain.proofs.adding.walk.change_each.Goals as goal
use Rattle.lg_plain.proofs.adding.walk.change_each.Goals.{then-has+in_ok-change, else-has}

pub loop-task-preserved : goal.loop-task-preserved
loop-task-preserved g c =
    let meant = g.C.TaskChange.is_meant c.args.change.now in
    let change = g.C.TaskChange.changed c.args.change.now in
    let ys = c.loop-task.tasks in
    let i = c.loop-task.task-index in
    let task = get_or ys i c.task-item.result in
    let inside : i < length c.args.tasks.now = omega arith in
    let here : task ≡ get_or ys i task = ap (get_or ys i) c.task-item.is in
    elim c.if-has.branch [
      | then-has+in_ok-change w ↦
          w.tasks-is ∙ set-change_meant meant change c.args.tasks.now ys i task _ true inside c.loop-task.invariant here (sym c.has.ensures ∙ w.if-has.true) w.in_ok-change.ensures
      | else-has w ↦
          w.tasks-is ∙ set-change_meant meant change c.args.tasks.now ys i task _ false inside c.loop-task.invariant here (sym c.has.ensures ∙ w.if-has.false) refl
    ]
