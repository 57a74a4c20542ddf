use Rattle.std.proofs.Common.{◌≡◌, take, ap, ◌∙◌, arith}
use Rattle.std.proofs.lemmas.List.{take_all}
use Rattle.std.specs.Prelude.{filter}
use Rattle.lg_views.specs.Lent.{lent}
use Rattle.lg_views.proofs.PickLemmas.{looked_at_more, lent_more}
use Rattle.lg_views.proofs.picking.picked_among.Goals as goal

pub loop-task-preserved : goal.loop-task-preserved
loop-task-preserved g c =
    let tasks = c.args.tasks.now in
    looked_at_more (g.W.Wanted.wants c.args.wanted.now) _ _ _ _ _ (lent_more tasks c.loop-task.task-index c.task-item.result (omega arith) c.task-item.is) c.loop-task.invariant c.in_ok-push_wanted.ensures

pub returns : goal.returns
returns g c =
    let l = c.loop-task in
    let whole : take l.task-index c.args.tasks.now ≡ c.args.tasks.now = take_all l.task-index c.args.tasks.now (omega arith) in
    l.invariant ∙ ap (λ tasks. filter (g.W.Wanted.wants c.args.wanted.now) (lent tasks)) whole
