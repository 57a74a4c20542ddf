use Rattle.std.proofs.Common.{Option, List, [], ap, sym, ◌∙◌, subst, arith}
use Rattle.atomic_table.specs.Table.{Me, Splits}
use Rattle.lg_turn.specs.declared.view.Account.{Account}
use Rattle.lg_turn.specs.declared.view.View.{View}
use Rattle.lg_turn.specs.declared.view.Stage.TheVariants.{Enrols}
use Rattle.lg_turn.specs.Views.{view_of}
use Rattle.lg_turn.specs.Rule.{IsKept}
use Rattle.lg_turn.specs.Steps.{kept, enrolled}
use Rattle.lg_turn.proofs.One.{first_account}
use Rattle.lg_turn.proofs.Parting.{parts}
use Rattle.lg_turn.proofs.turn.split.part.Goals as goal

pub split_seat-requires : goal.split_seat-requires
split_seat-requires g c =
    let k = g.V.Keeps in
    let seat = c.args.seat.now in
    let terms = c.args.shared.now.key in
    let n = c.args.number in
    let out = c.args.out in
    let first = first_account seat.me.0.accounts c.requires.enrolled.0 in
    let is = c.requires.enrolled.1 ∙ ap (λ (l : List (Account g.row.V-Item.Denot g.row.V-Base.Denot)). (view_of l (Enrols n out), [])) first.2 in (
      c.requires.turn.0,
      omega (arith, c.requires.turn.1),
      subst
          (λ (me : Me (Option g.row.V.Denot) (View g.row.V-Item.Denot g.row.V-Base.Denot)). Splits (IsKept k.items k.number k.base terms.callers (k.base terms.first.value)) seat.id me.0 (kept me.0) (enrolled me.0))
          (sym is)
          (parts k.items k.number k.base terms.callers (k.base terms.first.value) seat.id n out first.0 first.1 c.requires.room),
    )
