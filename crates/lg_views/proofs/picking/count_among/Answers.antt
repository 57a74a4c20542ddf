use Rattle.std.proofs.Common.{◌≡◌, ◌+◌, take, ap, ◌∙◌, arith}
use Rattle.std.proofs.lemmas.List.{take_all}
use Rattle.std.specs.Prelude.{count_by}
use Rattle.lg_views.specs.Lent.{lent}
use Rattle.lg_views.proofs.CountLemmas.{count_more, from-small}
use Rattle.lg_views.proofs.PickLemmas.{lent_more}
use Rattle.lg_views.proofs.picking.count_among.Goals as goal

pub loop-task-preserved : goal.loop-task-preserved
loop-task-preserved g c = record {
  count = count_more (g.W.Wanted.wants c.args.wanted.now) _ _ c.task-item.result.now _ _ c.is_met_by.result (lent_more c.args.tasks.now c.loop-task.task-index c.task-item.result (omega arith) c.task-item.is) c.loop-task.invariant.count
      c.is_met_by.ensures (ap (λ n. c.loop-task.count + n) c.from-count.ensures);
  small = omega (arith, c.loop-task.invariant.small, c.from-count.ensures, from-small c.is_met_by.result);
}

pub returns-clause-count : goal.returns-clause-count
returns-clause-count g c =
    let l = c.loop-task in
    let whole : take l.task-index c.args.tasks.now ≡ c.args.tasks.now = take_all l.task-index c.args.tasks.now (omega arith) in
    l.invariant.count ∙ ap (λ tasks. count_by (g.W.Wanted.wants c.args.wanted.now) (lent tasks)) whole
