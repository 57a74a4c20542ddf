use Rattle.std.proofs.Common.{◌≡◌, Ok, Some, ◌∷◌, [], ◌++◌, length, length-append, string_bytes, refl, sym, ap, ◌∙◌, arith, rules}
use Rattle.serde_json.specs.Find.{as_str}
use Rattle.serde_json.specs.View.{view, members_view}
use Rattle.lg_json.specs.Fields.{each_member, text_of}
use Rattle.lg_json.proofs.InOrder.{in_order}
use Rattle.lg_json.proofs.Reading.{member_first, moved, read_text}
use Rattle.lg_json.proofs.lists.move_pairs.Goals as goal

pub loop-name-preserved-in-Some-into_text : goal.loop-name-preserved-in-Some-into_text
loop-name-preserved-in-Some-into_text c =
    let l = c.loop-name in
    let name = string_bytes c.in-Some.name in
    let text = c.in-Some-into_text.text in
    let rest = c.next.new.self in
    let left = l.invariant.0 in
    let here : each_member text_of (members_view ((c.in-Some.name, c.in-Some.value) ∷ rest)) ≡ Ok left = rw c.in-Some.ensures.steps at l.invariant.1 in
    let first = member_first text_of name (view c.in-Some.value) (members_view rest) left here in
    let is : as_str (view c.in-Some.value) ≡ Some text = sym c.into_text.ensures ∙ c.in-Some-into_text.is in
    let same = read_text (view c.in-Some.value) text first.x is first.reads in
    let grown = moved l.pairs.items (name, text) first.later left (first.joined ∙ ap (λ x. (name, x) ∷ first.later) same) in (
      first.later,
      first.reads_on,
      l.invariant.2 ∙ rw (c.push_reserved.ensures.items, c.name_of.ensures, grown) refl,
      rw (c.push_reserved.ensures.items, c.push_reserved.ensures.capacity, c.name_of.ensures) (omega (arith, l.invariant.3, ap length grown, length-append l.pairs.items left, length-append (l.pairs.items ++ (name, text) ∷ []) first.later)),
    )

pub returns-clause-order : goal.returns-clause-order
returns-clause-order c =
    let l = c.loop-name in
    let all : each_member text_of (members_view c.args.members.entries) ≡ Ok l.pairs.items = search rules in
    in_order text_of c.args.members.entries l.pairs.items c.into_iter-name-iterator.ensures.into_iter_gives.5 all
