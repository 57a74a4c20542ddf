use Rattle.std.proofs.Common.{◌+◌, ◌-◌, ◌%◌, ◌^◌, Option, List, [], ap, sym, ◌∙◌, subst, arith}
use mathlib.Core.Option.{none}
use Rattle.atomic_table.specs.Table.{Me, step, Allows}
use Rattle.lg_turn.specs.declared.view.Account.{Account}
use Rattle.lg_turn.specs.declared.view.View.{View}
use Rattle.lg_turn.specs.declared.view.Stage.TheVariants.{Idle}
use Rattle.lg_turn.specs.Views.{view_of}
use Rattle.lg_turn.specs.Rule.{IsKept}
use Rattle.lg_turn.specs.Steps.{Absorbs}
use Rattle.lg_turn.proofs.One.{two_accounts}
use Rattle.lg_turn.proofs.Absorbing.{absorbs}
use Rattle.lg_turn.proofs.turn.join.absorb.Goals as goal

pub fetch_sub-requires : goal.fetch_sub-requires
fetch_sub-requires g c =
    let k = g.V.Keeps in
    let seat = c.args.seat.now in
    let terms = c.args.shared.now.key in
    let slots = c.args.shared.now.table_id.slots in
    let two = two_accounts seat.me.0.accounts c.requires.two.0 in
    let is = c.requires.two.1 ∙ ap (λ (l : List (Account g.row.V-Item.Denot g.row.V-Base.Denot)). (view_of l Idle, [])) two.2 in (
      c.requires.turn.0,
      omega (arith, c.requires.turn.1),
      subst
          (λ (me : Me (Option g.row.V.Denot) (View g.row.V-Item.Denot g.row.V-Base.Denot)).
          Allows (IsKept k.items k.number k.base terms.callers (k.base terms.first.value)) slots seat.id me 2 (λ n. (n + (2 ^ 64 - 1)) % 2 ^ 64) (Absorbs k.number (step slots 2 1 0 none) me))
          (sym is)
          (absorbs k.items k.number k.base terms.callers (k.base terms.first.value) slots seat.id two.0 two.1),
    )
