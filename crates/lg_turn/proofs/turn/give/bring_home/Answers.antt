use Rattle.std.proofs.Common.{Option, Some, [], ◌∷◌, ◌+◌, ◌%◌, ◌^◌, map, ap, sym, ◌∙◌, subst, refl, arith}
use mathlib.Core.Option.{none}
use Rattle.atomic_table.specs.Table.{Me, step, Allows}
use Rattle.lg_turn.specs.declared.view.View.{View}
use Rattle.lg_turn.specs.declared.view.Stage.TheVariants.{Idle}
use Rattle.lg_turn.specs.Views.{view_of}
use Rattle.lg_turn.specs.Rule.{IsKept}
use Rattle.lg_turn.specs.Steps.{Advances, after_give}
use Rattle.lg_turn.proofs.Advancing.{advances}
use Rattle.lg_turn.proofs.turn.give.bring_home.Goals as goal

pub fetch_add-requires : goal.fetch_add-requires
fetch_add-requires g c =
    let k = g.V.Keeps in
    let seat = c.put_back.new.seat in
    let terms = c.args.shared.now.key in
    let slots = c.args.shared.now.table_id.slots in
    let value = c.args.value in
    let may = c.requires.may_give in
    let is = c.put_back.ensures.filled ∙ ap (λ (v : View g.row.V-Item.Denot g.row.V-Base.Denot). (v, (0, Some value) ∷ [])) may.6 in (
      c.put_back.ensures.same.0 ∙ c.requires.turn.0,
      omega (arith, c.requires.turn.1),
      subst
          (λ (me : Me (Option g.row.V.Denot) (View g.row.V-Item.Denot g.row.V-Base.Denot)).
          Allows (IsKept k.items k.number k.base terms.callers (k.base terms.first.value)) slots seat.id me 1 (λ m. (m + 1) % 2 ^ 64) (Advances k.items k.number k.base (step slots 1 1 0 none) me))
          (sym is)
          (advances k.items k.number k.base terms.callers (k.base terms.first.value) slots seat.id may.0 may.1 (k.base value) may.2 may.3 may.4 may.5 value refl may.7 may.8),
    )

pub returns-clause-given : goal.returns-clause-given
returns-clause-given g c =
    let filled = c.put_back.ensures.filled in
    (c.fetch_add.ensures.2 c.args.value (ap (λ (me : Me (Option g.row.V.Denot) (View g.row.V-Item.Denot g.row.V-Base.Denot)). me.1) filled)).0
    ∙ ap (λ (me : Me (Option g.row.V.Denot) (View g.row.V-Item.Denot g.row.V-Base.Denot)). (view_of (map (after_give (g.V.Keeps.items c.args.value)) me.0.accounts) Idle, [])) filled

pub returns-clause-fits : goal.returns-clause-fits
returns-clause-fits g c = (c.fetch_add.ensures.2 c.args.value (ap (λ (me : Me (Option g.row.V.Denot) (View g.row.V-Item.Denot g.row.V-Base.Denot)). me.1) c.put_back.ensures.filled)).1
