use Rattle.std.proofs.Common.{◌≡◌, ◌+◌, [], Ok, Err, drop, refl, sym, ◌∙◌, arith}
use Rattle.std.proofs.lemmas.List.{drop_all}
use Rattle.std.proofs.lemmas.Result.{err_from_is_err_and}
use Rattle.serde_json.specs.View.{view, items_view}
use Rattle.lg_json.specs.Fields.{text_of, checked}
use Rattle.lg_json.proofs.Reading.{items_left, checked_item, refused_item}
use Rattle.lg_json.proofs.lists.check_texts.Goals as goal

pub loop-item-init : goal.loop-item-init
loop-item-init c = refl

pub returns-in_err-check_text : goal.returns-in_err-check_text
returns-in_err-check_text c =
    let l = c.loop-item in
    let left = items_left c.args.items.now l.item-index c.item-item.result (omega arith) c.item-item.is in
    let fault = c.in_err-check_text.field-0.0 in
    let bad : checked (text_of (view c.item-item.result)) ≡ Err fault = sym c.check_text.ensures ∙ c.in_err-check_text.was in
    let told = err_from_is_err_and c.from_residual.result c.from_residual.ensures.1 in
    rw (told.1, told.2, l.invariant, left) (sym (refused_item text_of (view c.item-item.result) (items_view (drop (l.item-index + 1) c.args.items.now)) fault bad))

pub loop-item-preserved : goal.loop-item-preserved
loop-item-preserved c =
    let l = c.loop-item in
    let left = items_left c.args.items.now l.item-index c.item-item.result (omega arith) c.item-item.is in
    let good : checked (text_of (view c.item-item.result)) ≡ Ok tt = sym c.check_text.ensures ∙ c.in_ok-check_text.was in
    rw (l.invariant, left) (checked_item text_of (view c.item-item.result) (items_view (drop (l.item-index + 1) c.args.items.now)) good)

pub returns : goal.returns
returns c =
    let l = c.loop-item in
    let none : drop l.item-index c.args.items.now ≡ [] = drop_all l.item-index c.args.items.now (omega arith) in
    rw (l.invariant, none) refl
