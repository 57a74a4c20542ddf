use Rattle.std.proofs.Common.{Option, ap, arith}
use Rattle.atomic_table.specs.Table.{Me}
use Rattle.lg_turn.specs.declared.view.View.{View}
use Rattle.lg_turn.proofs.Gathering.{joins}
use Rattle.lg_turn.proofs.turn.join.take_in.Goals as goal

pub join_seat-requires : goal.join_seat-requires
join_seat-requires g c =
    let k = g.V.Keeps in
    let seat = c.args.seat.now in
    let other = c.args.other in
    let terms = c.args.shared.now.key in (
      c.requires.turn.0,
      c.requires.turn.1,
      ap (λ (me : Me (Option g.row.V.Denot) (View g.row.V-Item.Denot g.row.V-Base.Denot)). me.1) c.requires.away.1,
      omega (arith, c.requires.turn.2),
      joins k.items k.number k.base terms.callers (k.base terms.first.value) seat.id other.id seat.me other.me seat.me.0.accounts other.me.0.accounts c.requires.away.0 c.requires.away.1,
    )
