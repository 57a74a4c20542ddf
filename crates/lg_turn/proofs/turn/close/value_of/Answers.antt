use Rattle.lg_turn.proofs.Closing.{closed, closed_as}
use Rattle.lg_turn.proofs.turn.close.value_of.Goals as goal

pub unreachable-requires : goal.unreachable-requires
unreachable-requires g c =
    let k = g.V.Keeps in
    let shared = c.args.table.shared in
    let seat = c.args.seat in
    let end = closed k.items k.number k.base shared.key.callers (k.base shared.key.first.value) seat.id seat.me.0 c.requires.all c.requires.without _ _ c.take-slot.result c.close_with-closed.ensures.values.2 c.take-slot.ensures.value in
    c.in_default.not-Some end.0 end.1

pub returns : goal.returns
returns g c =
    let k = g.V.Keeps in
    let shared = c.args.table.shared in
    let seat = c.args.seat in
    record { ends = closed_as k.items k.number k.base shared.key.callers (k.base shared.key.first.value) seat.id seat.me.0 c.requires.all c.requires.without _ _ c.take-slot.result c.in-Some.value c.close_with-closed.ensures.values.2 c.take-slot.ensures.value c.in-Some.is }
