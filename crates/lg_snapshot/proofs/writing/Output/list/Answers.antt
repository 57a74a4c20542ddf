use Rattle.std.proofs.Common.{arith}
use Rattle.lg_snapshot.proofs.Commas.{begun, items_left, next_item}
use Rattle.lg_snapshot.proofs.HoldingLemmas.{OnOk-anyway, item_held, items_held}
use Rattle.lg_snapshot.proofs.writing.Output.list.Goals as goal

pub loop-item-init : goal.loop-item-init
loop-item-init g c = (rw c.in_ok-word.ensures (begun c.args.self.now 91 93 (items_left g.T.Written.tree c.args.items.now)), λ all. all)

pub loop-item-preserved : goal.loop-item-preserved
loop-item-preserved g c =
    let l = c.loop-item in (
      rw (c.in_ok-write.ensures.written, c.in_ok-comma.ensures)
          (next_item g.T.Written.tree _ l.self l.later 93 c.args.items.now l.item-index c.item-item.result (omega arith) c.item-item.is l.invariant.0),
      item_held g.T.Written.tree g.T.Written.fits c.args.items.now l.item-index c.item-item.result (omega arith) c.item-item.is c.in_ok-write.ensures.held l.invariant.1,
    )

pub returns-clause-held : goal.returns-clause-held
returns-clause-held g c =
    let l = c.loop-item in
    OnOk-anyway c.word-2.result (items_held g.T.Written.tree g.T.Written.fits c.args.items.now l.item-index (omega arith) l.invariant.1)
