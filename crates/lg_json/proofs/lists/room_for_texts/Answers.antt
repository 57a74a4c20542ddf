use Rattle.std.proofs.Common.{◌≡◌, Err, sym, ap, ◌∙◌, arith}
use Rattle.std.proofs.lemmas.Result.{err_from_is_err_and}
use Rattle.serde_json.specs.View.{view, items_view}
use Rattle.serde_json.proofs.Views.{view-Array}
use Rattle.lg_json.specs.Fields.{each_item, text_of, texts_of, checked}
use Rattle.lg_json.proofs.Reading.{length-each_item}
use Rattle.lg_json.proofs.Rooms.{Gives-fault, checked_ok, wants_none-items, wants_none-text}
use Rattle.lg_json.proofs.lists.room_for_texts.Goals as goal

pub returns-in_err-check_texts : goal.returns-in_err-check_texts
returns-in_err-check_texts c =
    let fault = c.in_err-check_texts.field-0.0 in
    let told = err_from_is_err_and c.from_residual.result c.from_residual.ensures.1 in
    let seen : texts_of (view c.args.value.now) ≡ each_item text_of (items_view c.in-Array.items.items) = ap (λ v. texts_of (view v)) c.in-Array.is ∙ ap texts_of (view-Array c.in-Array.items) in
    let bad : checked (each_item text_of (items_view c.in-Array.items.items)) ≡ Err fault = sym (rw c.deref.ensures.value at c.check_texts.ensures) ∙ c.in_err-check_texts.was in
    rw (told.1, told.2, seen) (Gives-fault fault (each_item text_of (items_view c.in-Array.items.items)) bad (wants_none-items text_of wants_none-text (items_view c.in-Array.items.items)))

pub returns : goal.returns
returns c =
    let seen : texts_of (view c.args.value.now) ≡ each_item text_of (items_view c.in-Array.items.items) = ap (λ v. texts_of (view v)) c.in-Array.is ∙ ap texts_of (view-Array c.in-Array.items) in
    let all = checked_ok (each_item text_of (items_view c.in-Array.items.items)) (sym (rw c.deref.ensures.value at c.check_texts.ensures) ∙ c.in_ok-check_texts.was) in
    rw (seen, all.1) (c.in_ok-with_capacity.ensures.items, omega (arith, length-each_item text_of c.in-Array.items.items all.0 all.1, c.in_ok-with_capacity.ensures.capacity))
