use Rattle.std.proofs.Common.{◌≡◌, Ok, Err, string_bytes, sym, ◌∙◌}
use Rattle.std.proofs.lemmas.Result.{err_from_is_err_and}
use Rattle.serde_json.specs.View.{view, members_view}
use Rattle.lg_json.specs.Fields.{text_of, checked}
use Rattle.lg_json.proofs.Reading.{checked_member, refused_member}
use Rattle.lg_json.proofs.lists.check_pairs.Goals as goal

pub returns-in_err-check_text : goal.returns-in_err-check_text
returns-in_err-check_text c =
    let fault = c.in_err-check_text.field-0.0 in
    let bad : checked (text_of (view c.in-Some.value.now)) ≡ Err fault = sym c.check_text.ensures ∙ c.in_err-check_text.was in
    let told = err_from_is_err_and c.from_residual.result c.from_residual.ensures.1 in
    rw (told.1, told.2, c.loop-value.invariant, c.in-Some.ensures.steps) (sym (refused_member text_of (string_bytes c.in-Some.field-0-0.now) (view c.in-Some.value.now) (members_view c.next.new.self) fault bad))

pub loop-value-preserved : goal.loop-value-preserved
loop-value-preserved c =
    let good : checked (text_of (view c.in-Some.value.now)) ≡ Ok tt = sym c.check_text.ensures ∙ c.in_ok-check_text.was in
    rw (c.loop-value.invariant, c.in-Some.ensures.steps) (checked_member text_of (string_bytes c.in-Some.field-0-0.now) (view c.in-Some.value.now) (members_view c.next.new.self) good)
