use Rattle.std.proofs.Common.{◌≡◌, ℕ, ◌+◌, ◌-◌, ◌<◌, Option, List, [], map, ap, sym, ◌∙◌, subst, arith}
use Rattle.std.specs.List.{All, range_with_len}
use Rattle.std.proofs.lemmas.List.Elements.{All-push}
use Rattle.atomic_table.specs.Table.{Me, Splits}
use Rattle.atomic_table.specs.declared.shared.Seat.{Seat}
use Rattle.lg_turn.specs.declared.pass.Pass.{Pass}
use Rattle.lg_turn.specs.declared.view.Account.{Account}
use Rattle.lg_turn.specs.declared.view.View.{View}
use Rattle.lg_turn.specs.declared.view.Stage.TheVariants.{Idle}
use Rattle.lg_turn.specs.Views.{blank, view_of}
use Rattle.lg_turn.specs.Rule.{IsKept}
use Rattle.lg_turn.specs.Steps.{left_over, cut_off}
use Rattle.lg_turn.specs.Passes.{IsNew}
use Rattle.lg_turn.proofs.Dealing.{deals}
use Rattle.lg_turn.proofs.Handing.{next_blank, last_blank, new_pass, pushed_number}
use Rattle.lg_turn.proofs.turn.make.deal.Goals as goal

pub split_seat-other-requires : goal.split_seat-other-requires
split_seat-other-requires g c =
    let k = g.V.Keeps in
    let terms = c.args.shared.now.key in
    let over = k.base terms.first.value in
    let n = c.loop-number.number in
    let callers = c.args.callers in
    let lt : n < callers = omega arith in
    let is = c.loop-number.invariant.rest ∙ ap (λ (l : List (Account g.row.V-Item.Denot g.row.V-Base.Denot)). (view_of l Idle, [])) (next_blank g.row.V-Item.Denot over n callers lt) in (
      c.loop-number.invariant.turn,
      omega (arith, c.requires.turn.1),
      subst
          (λ (me : Me (Option g.row.V.Denot) (View g.row.V-Item.Denot g.row.V-Base.Denot)). Splits (IsKept k.items k.number k.base terms.callers over) c.loop-number.seat.id me.0 (left_over me.0) (cut_off me.0))
          (sym is)
          (deals k.items k.number k.base terms.callers over c.loop-number.seat.id (blank over n) (map (blank over) (range_with_len (n + 1) (callers - (n + 1))))),
    )

pub pass_at-requires : goal.pass_at-requires
pass_at-requires g c =
    let over = g.V.Keeps.base c.args.shared.now.key.first.value in
    let n = c.loop-number.number in
    let callers = c.args.callers in
    let lt : n < callers = omega arith in
    let is = c.loop-number.invariant.rest ∙ ap (λ (l : List (Account g.row.V-Item.Denot g.row.V-Base.Denot)). (view_of l Idle, [])) (next_blank g.row.V-Item.Denot over n callers lt) in
    (over, c.split_seat-other.ensures.4 ∙ ap (λ (me : Me (Option g.row.V.Denot) (View g.row.V-Item.Denot g.row.V-Base.Denot)). (cut_off me.0, [])) is)

pub loop-number-preserved : goal.loop-number-preserved
loop-number-preserved g c =
    let over = g.V.Keeps.base c.args.shared.now.key.first.value in
    let n = c.loop-number.number in
    let callers = c.args.callers in
    let before = c.loop-number.invariant in
    let pass = c.pass_at.result in
    let lt : n < callers = omega arith in
    let is = before.rest ∙ ap (λ (l : List (Account g.row.V-Item.Denot g.row.V-Base.Denot)). (view_of l Idle, [])) (next_blank g.row.V-Item.Denot over n callers lt) in
    let cut = c.split_seat-other.ensures in
    let mine = ap (λ (s : Seat (Option g.row.V.Denot) (View g.row.V-Item.Denot g.row.V-Base.Denot)). s.me) c.pass_at.ensures.same.0 ∙ cut.4 ∙ ap (λ (me : Me (Option g.row.V.Denot) (View g.row.V-Item.Denot g.row.V-Base.Denot)). (cut_off me.0, [])) is in
    let New : Pass g.row.V.Denot g.row.V-Item.Denot g.row.V-Base.Denot g.V.Keeps → Type 0 = λ p. (p.seat.table_id ≡ c.args.shared.now.table_id) × IsNew over p in record {
      turn = cut.0 ∙ before.turn;
      rest = cut.2 ∙ ap (λ (me : Me (Option g.row.V.Denot) (View g.row.V-Item.Denot g.row.V-Base.Denot)). (left_over me.0, me.1)) is;
      numbers = pushed_number c.loop-number.passes.items c.push_reserved.new.self.items pass n c.push_reserved.ensures.items c.pass_at.ensures.same.1 before.numbers;
      new = subst (All New) (sym c.push_reserved.ensures.items) (All-push New c.loop-number.passes.items pass before.new
          (ap (λ (s : Seat (Option g.row.V.Denot) (View g.row.V-Item.Denot g.row.V-Base.Denot)). s.table_id) c.pass_at.ensures.same.0 ∙ cut.3 ∙ before.turn, new_pass over n pass mine));
      room = omega arith;
      capacity = c.push_reserved.ensures.capacity ∙ before.capacity;
    }

pub pass_at-requires-2 : goal.pass_at-requires-2
pass_at-requires-2 g c =
    let over = g.V.Keeps.base c.args.shared.now.key.first.value in
    let callers = c.args.callers in
    let n : c.loop-number.number ≡ callers - 1 = omega arith in
    let last : callers - 1 + 1 ≡ callers = omega arith in
    let before = c.loop-number.invariant.rest ∙ ap (λ (m : ℕ). (view_of (map (blank over) (range_with_len m (callers - m))) Idle, [])) n in
    (over, before ∙ ap (λ (l : List (Account g.row.V-Item.Denot g.row.V-Base.Denot)). (view_of l Idle, [])) (last_blank g.row.V-Item.Denot over (callers - 1) callers last))

pub returns-clause-numbers : goal.returns-clause-numbers
returns-clause-numbers g c =
    let callers = c.args.callers in
    let n : callers - 1 ≡ c.loop-number.number = omega arith in
    let all : c.loop-number.number + 1 ≡ callers = omega arith in
    pushed_number c.loop-number.passes.items c.push_reserved-2.new.self.items c.pass_at-2.result c.loop-number.number c.push_reserved-2.ensures.items (c.pass_at-2.ensures.same.1 ∙ n) c.loop-number.invariant.numbers ∙ ap (range_with_len 0) all
