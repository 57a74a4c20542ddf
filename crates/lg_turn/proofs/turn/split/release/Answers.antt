use Rattle.std.proofs.Common.{◌+◌, ◌-◌, ◌%◌, ◌^◌, Option, List, ℕ, sym, subst, arith}
use mathlib.Core.Option.{none}
use Rattle.atomic_table.specs.Table.{step, Allows}
use Rattle.lg_turn.specs.Rule.{IsKept}
use Rattle.lg_turn.specs.Steps.{Releases}
use Rattle.lg_turn.proofs.Releasing.{releases}
use Rattle.lg_turn.proofs.turn.split.release.Goals as goal

pub fetch_sub-requires : goal.fetch_sub-requires
fetch_sub-requires g c =
    let k = g.V.Keeps in
    let seat = c.args.seat.now in
    let terms = c.args.shared.now.key in
    let slots = c.args.shared.now.table_id.slots in
    let excess = c.args.excess in (
      c.requires.turn.0,
      omega (arith, c.requires.turn.1),
      subst
          (λ (carried : List (ℕ × Option g.row.V.Denot)).
          Allows (IsKept k.items k.number k.base terms.callers (k.base terms.first.value)) slots seat.id (seat.me.0, carried) 2 (λ n. (n + (2 ^ 64 - excess)) % 2 ^ 64) (Releases (step slots 2 excess 0 none) (seat.me.0, carried)))
          (sym c.requires.owes.2)
          (releases k.items k.number k.base terms.callers (k.base terms.first.value) slots seat.id excess seat.me.0.accounts seat.me.0.stage c.requires.pass c.requires.owes.0 c.requires.owes.1),
    )
