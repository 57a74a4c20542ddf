use Rattle.std.proofs.Common.{◌+◌, ◌%◌, ◌^◌, sym, subst, arith}
use mathlib.Core.Option.{none}
use Rattle.atomic_table.specs.Table.{step, Allows}
use Rattle.lg_turn.specs.declared.view.Stage.{Stage}
use Rattle.lg_turn.specs.Rule.{IsKept}
use Rattle.lg_turn.specs.Views.{view_of}
use Rattle.lg_turn.specs.Steps.{Draws}
use Rattle.lg_turn.proofs.Drawing.{draws}
use Rattle.lg_turn.proofs.turn.take.draw.Goals as goal

pub fetch_add-requires : goal.fetch_add-requires
fetch_add-requires g c =
    let k = g.V.Keeps in
    let seat = c.args.seat.now in
    let terms = c.args.shared.now.key in
    let slots = c.args.shared.now.table_id.slots in (
      c.requires.turn.0,
      omega (arith, c.requires.turn.1),
      subst
          (λ (at : Stage). Allows (IsKept k.items k.number k.base terms.callers (k.base terms.first.value)) slots seat.id (view_of seat.me.0.accounts at, seat.me.1) 0 (λ n. (n + 1) % 2 ^ 64) (Draws (step slots 0 1 0 none) (view_of seat.me.0.accounts at, seat.me.1)))
          (sym c.requires.away.0)
          (draws k.items k.number k.base terms.callers (k.base terms.first.value) slots seat.id seat.me.0.accounts seat.me.1 c.requires.away.1),
    )
