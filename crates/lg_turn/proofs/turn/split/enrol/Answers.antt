use Rattle.std.proofs.Common.{◌+◌, ◌%◌, ◌^◌, Option, sym, subst, arith}
use mathlib.Core.Option.{none}
use Rattle.atomic_table.specs.Table.{Me, step, Allows}
use Rattle.lg_turn.specs.declared.view.View.{View}
use Rattle.lg_turn.specs.Rule.{IsKept}
use Rattle.lg_turn.specs.Steps.{Enrolls}
use Rattle.lg_turn.proofs.Enrolling.{enrols}
use Rattle.lg_turn.proofs.turn.split.enrol.Goals as goal

pub fetch_add-requires : goal.fetch_add-requires
fetch_add-requires g c =
    let k = g.V.Keeps in
    let seat = c.args.seat.now in
    let terms = c.args.shared.now.key in
    let slots = c.args.shared.now.table_id.slots in (
      c.requires.turn.0,
      omega (arith, c.requires.turn.1),
      subst
          (λ (me : Me (Option g.row.V.Denot) (View g.row.V-Item.Denot g.row.V-Base.Denot)).
          Allows (IsKept k.items k.number k.base terms.callers (k.base terms.first.value)) slots seat.id me 2 (λ n. (n + 4294967297) % 2 ^ 64) (Enrolls k.number (step slots 2 4294967297 0 none) me))
          (sym c.requires.away.1)
          (enrols k.items k.number k.base terms.callers (k.base terms.first.value) slots seat.id seat.me.0.accounts c.requires.away.0),
    )
