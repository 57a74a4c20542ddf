use Rattle.std.proofs.Common.{sym, ap, ◌∙◌}
use Rattle.lg_calls.specs.Order.{all_pairs}
use Rattle.lg_snapshot.proofs.OrderLemmas.{whole, stepped, fallen, risen}
use Rattle.lg_snapshot.proofs.order.rise.Goals as goal

pub loop-item-init : goal.loop-item-init
loop-item-init g c = ap (all_pairs g.T.Rising.before) (whole c.args.items.now c.first-item.result c.in-len1-up.len_at_least c.first-item.is)

pub loop-item-preserved : goal.loop-item-preserved
loop-item-preserved g c =
    stepped g.T.Rising.before g.met.T.Rising.transitive _ _ c.loop-item.item-index c.loop-item.last.now c.item-item.result c.loop-item-test.true c.item-item.is (sym c.is_before.ensures ∙ c.if-not-is_before.false) c.loop-item.invariant

pub returns-then-not-is_before : goal.returns-then-not-is_before
returns-then-not-is_before g c =
    fallen g.T.Rising.before g.met.T.Rising.transitive _ _ c.loop-item.item-index c.loop-item.last.now c.item-item.result c.loop-item-test.true c.item-item.is (sym c.is_before.ensures ∙ c.if-not-is_before.true) c.loop-item.invariant

pub returns : goal.returns
returns g c = risen g.T.Rising.before g.met.T.Rising.transitive _ _ c.loop-item.item-index c.loop-item.last.now c.loop-item-test.false c.loop-item.invariant
