use Rattle.std.proofs.Common.{◌≡◌, ◌∷◌, ◌++◌, [], map, sym, ap, ◌∙◌}
use Rattle.lg_plain.specs.Prepared.{is_meant_by}
use Rattle.lg_plain.proofs.PreparedLemmas.{history_of, IsPrepared-more, IsPrepared-same}
use Rattle.lg_plain.proofs.change.prepare.Goals as goal
use Rattle.lg_plain.proofs.change.prepare.Goals.{then-gets_failure+in_ok-failures+in_ok-push_back, else-gets_failure}

pub loop-task-preserved : goal.loop-task-preserved
loop-task-preserved c =
    let meant = is_meant_by c.args.meant.now in
    elim c.if-gets_failure.branch [
      | then-gets_failure+in_ok-failures+in_ok-push_back w ↦
          (let pushed = w.in_ok-push_back.ensures.items in
          let more : c.if-gets_failure.prepared.items ≡ c.loop-task.prepared.items ++ w.in_ok-failures.failures ∷ [] = cc in
          ap (map history_of) more
          ∙ IsPrepared-more c.args.change.now meant c.args.tasks.now c.loop-task.task-index c.task-item.result c.loop-task.prepared.items w.in_ok-failures.failures
          c.loop-task-test.true c.task-item.is c.loop-task.invariant (sym c.gets_failure.ensures ∙ w.if-gets_failure.true) w.in_ok-failures.ensures)
      | else-gets_failure w ↦
          (let same : c.if-gets_failure.prepared.items ≡ c.loop-task.prepared.items = cc in
          ap (map history_of) same
          ∙ IsPrepared-same c.args.change.now meant c.args.tasks.now c.loop-task.task-index c.task-item.result c.loop-task.prepared.items
          c.loop-task-test.true c.task-item.is c.loop-task.invariant (sym c.gets_failure.ensures ∙ w.if-gets_failure.false))
    ]
