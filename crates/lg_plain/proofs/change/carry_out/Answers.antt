use Rattle.std.proofs.Common.{◌≡◌, ◌<◌, length, get_or, map, cond, refl, sym, ap, ◌∙◌, arith}
use Rattle.lg_plain.specs.Prepared.{is_meant_by, changed_by}
use Rattle.lg_plain.proofs.PreparedLemmas.{history_of, read-initially, used-meant, used-other, set-change_meant}
use Rattle.lg_plain.proofs.change.carry_out.Goals as goal
use Rattle.lg_plain.proofs.change.carry_out.Goals.{then-has, else-has}

pub change_alone-requires-clause-next : goal.change_alone-requires-clause-next
change_alone-requires-clause-next c = λ adds.
    let change = c.args.change.now in
    let meant = is_meant_by c.args.meant.now in
    let ys = c.loop-task.tasks in
    let i = c.loop-task.task-index in
    let task = get_or ys i c.task-item.result in
    let inside : i < length c.args.tasks.now = omega arith in
    let here : task ≡ get_or ys i task = ap (get_or ys i) c.task-item.is in
    let initially = read-initially (λ t. cond (meant t) (changed_by change t) t) c.args.tasks.now ys i task inside c.loop-task.invariant.0 here in
    (used-meant change meant c.args.tasks.now i task c.loop-task.prepared.items inside initially c.loop-task.invariant.1 (sym c.has.ensures ∙ c.if-has.true)
    c.next_of-next.result c.next_of-next.new.prepared.items c.next_of-next.ensures).1 adds

pub loop-task-preserved : goal.loop-task-preserved
loop-task-preserved c =
    let change = c.args.change.now in
    let meant = is_meant_by c.args.meant.now in
    let ys = c.loop-task.tasks in
    let i = c.loop-task.task-index in
    let task = get_or ys i c.task-item.result in
    let inside : i < length c.args.tasks.now = omega arith in
    let here : task ≡ get_or ys i task = ap (get_or ys i) c.task-item.is in
    let initially = read-initially (λ t. cond (meant t) (changed_by change t) t) c.args.tasks.now ys i task inside c.loop-task.invariant.0 here in
    elim c.if-has.branch [
      | then-has w ↦
          (let is = sym c.has.ensures ∙ w.if-has.true in
          let left : c.if-has.prepared.items ≡ w.next_of-next.new.prepared.items = cc in (
            w.tasks-is ∙ set-change_meant meant (changed_by change) c.args.tasks.now ys i task _ _ inside c.loop-task.invariant.0 here is w.change_alone.ensures,
            ap (map history_of) left
                ∙ (used-meant change meant c.args.tasks.now i task c.loop-task.prepared.items inside initially c.loop-task.invariant.1 is
                w.next_of-next.result w.next_of-next.new.prepared.items w.next_of-next.ensures).0,
          ))
      | else-has w ↦
          (let is = sym c.has.ensures ∙ w.if-has.false in
          let left : c.if-has.prepared.items ≡ c.loop-task.prepared.items = cc in (
            w.tasks-is ∙ set-change_meant meant (changed_by change) c.args.tasks.now ys i task _ _ inside c.loop-task.invariant.0 here is refl,
            ap (map history_of) left ∙ used-other change meant c.args.tasks.now i task c.loop-task.prepared.items inside initially c.loop-task.invariant.1 is,
          ))
    ]
