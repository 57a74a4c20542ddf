use Rattle.std.proofs.Common.{Option, sym, subst, arith}
use mathlib.Core.Option.{none}
use Rattle.atomic_table.specs.Table.{Me, step, Allows}
use Rattle.lg_turn.specs.declared.view.View.{View}
use Rattle.lg_turn.specs.Rule.{IsKept}
use Rattle.lg_turn.specs.Steps.{Looks}
use Rattle.lg_turn.proofs.Looking.{looks}
use Rattle.lg_turn.proofs.turn.take.look.Goals as goal

pub load-requires : goal.load-requires
load-requires g c =
    let k = g.V.Keeps in
    let seat = c.args.seat.now in
    let terms = c.args.shared.now.key in
    let slots = c.args.shared.now.table_id.slots in
    let waits = c.requires.waits in (
      c.requires.turn.0,
      omega (arith, c.requires.turn.1),
      subst
          (λ (me : Me (Option g.row.V.Denot) (View g.row.V-Item.Denot g.row.V-Base.Denot)).
          Allows (IsKept k.items k.number k.base terms.callers (k.base terms.first.value)) slots seat.id me 1 (λ n. n) (Looks k.items k.number k.base (step slots 1 0 0 none) me))
          (sym waits.2)
          (looks k.items k.number k.base terms.callers (k.base terms.first.value) slots seat.id waits.0 seat.me.0.accounts),
    )
