use Rattle.std.proofs.Common.{◌≡◌, Ok, ◌∷◌, [], ◌++◌, length, length-append, string_bytes, refl, sym, ap, ◌∙◌, arith, rules}
use Rattle.serde_json.specs.View.{view, members_view}
use Rattle.lg_json.specs.Fields.{each_member, amount_of}
use Rattle.lg_json.proofs.InOrder.{in_order}
use Rattle.lg_json.proofs.Reading.{member_first, moved, read_amount}
use Rattle.lg_json.proofs.lists.move_amounts.Goals as goal

pub loop-name-preserved-in-Some-into_amount : goal.loop-name-preserved-in-Some-into_amount
loop-name-preserved-in-Some-into_amount c =
    let l = c.loop-name in
    let name = string_bytes c.in-Some.name in
    let amount = c.in-Some-into_amount.amount in
    let rest = c.next.new.self in
    let left = l.invariant.0 in
    let here : each_member amount_of (members_view ((c.in-Some.name, c.in-Some.value) ∷ rest)) ≡ Ok left = rw c.in-Some.ensures.steps at l.invariant.1 in
    let first = member_first amount_of name (view c.in-Some.value) (members_view rest) left here in
    let same = read_amount (view c.in-Some.value) amount first.x (sym c.into_amount.ensures ∙ c.in-Some-into_amount.is) first.reads in
    let grown = moved l.amounts.items (name, amount) first.later left (first.joined ∙ ap (λ x. (name, x) ∷ first.later) same) in (
      first.later,
      first.reads_on,
      l.invariant.2 ∙ rw (c.push_reserved.ensures.items, c.name_of.ensures, grown) refl,
      rw (c.push_reserved.ensures.items, c.push_reserved.ensures.capacity, c.name_of.ensures) (omega (arith, l.invariant.3, ap length grown, length-append l.amounts.items left, length-append (l.amounts.items ++ (name, amount) ∷ []) first.later)),
    )

pub returns-clause-order : goal.returns-clause-order
returns-clause-order c =
    let l = c.loop-name in
    let all : each_member amount_of (members_view c.args.members.entries) ≡ Ok l.amounts.items = search rules in
    in_order amount_of c.args.members.entries l.amounts.items c.into_iter-name-iterator.ensures.into_iter_gives.5 all
