use Rattle.std.proofs.Common.{arith}
use Rattle.lg_turn.proofs.Lone.{ended_alone}
use Rattle.lg_turn.proofs.turn.Turn.close.Goals as goal

pub returns-clause-begins : goal.returns-clause-begins
returns-clause-begins g c =
    let k = g.V.Keeps in
    let shared = c.args.self.table.shared in
    let pass = c.args.pass in
    let word = c.count-word.result in
    (ended_alone k.items k.number k.base shared.key.callers (k.base shared.key.first.value) word pass.number pass.seat.me c.count-word.new.seat.me c.value_of.result pass.one pass.numbered (c.count-word.ensures.counted.0 (omega arith)) c.value_of.ensures.ends).0

pub returns-clause-own : goal.returns-clause-own
returns-clause-own g c =
    let k = g.V.Keeps in
    let shared = c.args.self.table.shared in
    let pass = c.args.pass in
    let word = c.count-word.result in
    (ended_alone k.items k.number k.base shared.key.callers (k.base shared.key.first.value) word pass.number pass.seat.me c.count-word.new.seat.me c.value_of.result pass.one pass.numbered (c.count-word.ensures.counted.0 (omega arith)) c.value_of.ensures.ends).1
