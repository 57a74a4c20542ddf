use Rattle.std.proofs.Common.{arith}
use Rattle.lg_snapshot.proofs.Commas.{begun, members_left, next_member}
use Rattle.lg_snapshot.proofs.HoldingLemmas.{OnOk-anyway, pair_held, pairs_held}
use Rattle.lg_snapshot.proofs.writing.Output.object.Goals as goal

pub loop-name-init : goal.loop-name-init
loop-name-init g c = (rw c.in_ok-word.ensures (begun c.args.self.now 123 125 (members_left g.T.Written.tree c.args.pairs.now)), λ all. all)

pub loop-name-preserved : goal.loop-name-preserved
loop-name-preserved g c =
    let l = c.loop-name in
    let pair = c.loop-name-item.result in (
      rw (c.in_ok-member.ensures.written, c.in_ok-comma.ensures, c.as_str.ensures.same)
          (next_member g.T.Written.tree _ l.self l.later 125 c.args.pairs.now l.name-index pair (omega arith) c.loop-name-item.is l.invariant.0),
      pair_held g.T.Written.tree g.T.Written.fits c.args.pairs.now l.name-index pair (omega arith) c.loop-name-item.is (rw c.as_str.ensures.same at c.in_ok-member.ensures.held) l.invariant.1,
    )

pub returns-clause-held : goal.returns-clause-held
returns-clause-held g c =
    let l = c.loop-name in
    OnOk-anyway c.word-2.result (pairs_held g.T.Written.tree g.T.Written.fits c.args.pairs.now l.name-index (omega arith) l.invariant.1)
