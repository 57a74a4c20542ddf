use Rattle.std.proofs.Common.{Option, subst}
use Rattle.atomic_table.specs.Table.{Me}
use Rattle.lg_turn.specs.declared.view.View.{View}
use Rattle.lg_turn.specs.Steps.{HasTaken}
use Rattle.lg_turn.proofs.turn.take.wait.Goals as goal

pub returns-then-served-ticket-clause-served : goal.returns-then-served-ticket-clause-served
returns-then-served-ticket-clause-served g c =
    let k = g.V.Keeps in
    subst
    (λ (me : Me (Option g.row.V.Denot) (View g.row.V-Item.Denot g.row.V-Base.Denot)). HasTaken k.items k.number k.base me.0.accounts c.look-served.new.seat.me)
    c.loop.invariant.0
    (c.look-served.ensures.served c.if-served-ticket.true)
