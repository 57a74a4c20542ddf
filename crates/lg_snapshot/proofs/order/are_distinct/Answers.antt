use Rattle.std.proofs.Common.{map, sym, ◌∙◌}
use Rattle.lg_snapshot.proofs.SetLemmas.{begun, seen_more}
use Rattle.lg_snapshot.proofs.order.are_distinct.Goals as goal

pub loop-item-init : goal.loop-item-init
loop-item-init g c = begun _ (map g.T.Named.id c.args.items.now) c.new-seen.ensures.empty

pub loop-item-preserved : goal.loop-item-preserved
loop-item-preserved g c =
    seen_more g.T.Named.id c.args.items.now c.loop-item.item-index c.item-item.result c.loop-item.seen.keys c.insert.new.self.keys c.id.result c.loop-item-test.true c.item-item.is c.id.ensures
    (sym c.in_ok-insert.ensures.added ∙ c.if-not-branch.false) c.in_ok-insert.ensures.keys c.loop-item.invariant
