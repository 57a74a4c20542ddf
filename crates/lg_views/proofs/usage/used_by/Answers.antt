use Rattle.std.proofs.Common.{◌≡◌, take, ap, ◌∙◌, arith}
use Rattle.std.proofs.lemmas.List.{take_all}
use Rattle.lg_views.specs.Lent.{lent}
use Rattle.lg_calls.specs.Use.{use_by}
use Rattle.lg_views.proofs.UseLemmas.{use_more}
use Rattle.lg_views.proofs.usage.used_by.Goals as goal

pub loop-task-preserved : goal.loop-task-preserved
loop-task-preserved c = record {
  sum = use_more c.args.tasks.now c.args.name.now c.loop-task.task-index c.task-item.result (omega arith) c.task-item.is _ _ c.loop-task.invariant.sum (c.from-used.ensures ∙ c.taken_by.ensures);
  small = omega (arith, c.loop-task.invariant.small);
}

pub returns-clause-sum : goal.returns-clause-sum
returns-clause-sum c =
    let l = c.loop-task in
    let whole : take l.task-index c.args.tasks.now ≡ c.args.tasks.now = take_all l.task-index c.args.tasks.now (omega arith) in
    l.invariant.sum ∙ ap (λ tasks. use_by (lent tasks) c.args.name.now) whole
