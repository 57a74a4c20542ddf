use Rattle.std.proofs.Common.{◌≡◌, Ok, Some, ◌∷◌, [], ◌++◌, length, length-append, refl, sym, ap, ◌∙◌, arith}
use Rattle.serde_json.specs.Find.{as_str}
use Rattle.serde_json.specs.View.{view, items_view}
use Rattle.lg_json.specs.Fields.{each_item, text_of}
use Rattle.lg_json.proofs.Reading.{item_first, moved, read_text}
use Rattle.lg_json.proofs.lists.move_texts.Goals as goal

pub loop-item-preserved-in-Some-into_text : goal.loop-item-preserved-in-Some-into_text
loop-item-preserved-in-Some-into_text c =
    let l = c.loop-item in
    let text = c.in-Some-into_text.text in
    let rest = c.next.new.self.rest.items in
    let left = l.invariant.0 in
    let here : each_item text_of (items_view (c.in-Some.item ∷ rest)) ≡ Ok left = rw c.in-Some.ensures.steps.0 at l.invariant.1 in
    let first = item_first text_of (view c.in-Some.item) (items_view rest) left here in
    let is : as_str (view c.in-Some.item) ≡ Some text = sym c.into_text.ensures ∙ c.in-Some-into_text.is in
    let same = read_text (view c.in-Some.item) text first.x is first.reads in
    let grown = moved l.texts.items text first.later left (first.joined ∙ ap (λ x. x ∷ first.later) same) in (
      first.later,
      first.reads_on,
      l.invariant.2 ∙ rw (c.push_reserved.ensures.items, grown) refl,
      rw (c.push_reserved.ensures.items, c.push_reserved.ensures.capacity) (omega (arith, l.invariant.3, ap length grown, length-append l.texts.items left, length-append (l.texts.items ++ text ∷ []) first.later)),
    )
