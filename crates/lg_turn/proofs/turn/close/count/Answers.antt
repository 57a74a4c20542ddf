use Rattle.std.proofs.Common.{Option, sym, subst, arith}
use mathlib.Core.Option.{none}
use Rattle.atomic_table.specs.Table.{Me, step, Allows}
use Rattle.lg_turn.specs.declared.view.View.{View}
use Rattle.lg_turn.specs.Rule.{IsKept}
use Rattle.lg_turn.specs.Steps.{Counts}
use Rattle.lg_turn.proofs.Enrolling.{counts}
use Rattle.lg_turn.proofs.turn.close.count.Goals as goal

pub load-requires : goal.load-requires
load-requires g c =
    let k = g.V.Keeps in
    let seat = c.args.seat.now in
    let terms = c.args.shared.now.key in
    let slots = c.args.shared.now.table_id.slots in (
      c.requires.turn.0,
      omega (arith, c.requires.turn.1),
      subst
          (λ (me : Me (Option g.row.V.Denot) (View g.row.V-Item.Denot g.row.V-Base.Denot)).
          Allows (IsKept k.items k.number k.base terms.callers (k.base terms.first.value)) slots seat.id me 2 (λ n. n) (Counts (step slots 2 0 0 none) me))
          (sym c.requires.away.1)
          (counts k.items k.number k.base terms.callers (k.base terms.first.value) slots seat.id seat.me.0.accounts c.requires.away.0),
    )
