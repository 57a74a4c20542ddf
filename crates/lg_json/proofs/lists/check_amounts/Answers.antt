use Rattle.std.proofs.Common.{◌≡◌, Ok, Err, string_bytes, sym, ap, ◌∙◌}
use Rattle.std.proofs.lemmas.Result.{err_from_is_err_and}
use Rattle.serde_json.specs.View.{view, members_view}
use Rattle.lg_json.specs.Fields.{amount_of, checked}
use Rattle.lg_json.proofs.Reading.{checked_member, refused_member}
use Rattle.lg_json.proofs.lists.check_amounts.Goals as goal

pub returns-in_err-amount_of : goal.returns-in_err-amount_of
returns-in_err-amount_of c =
    let fault = c.in_err-amount_of.field-0.0 in
    let bad : checked (amount_of (view c.in-Some.value.now)) ≡ Err fault = ap checked (sym c.amount_of.ensures ∙ c.in_err-amount_of.was) in
    let told = err_from_is_err_and c.from_residual.result c.from_residual.ensures.1 in
    rw (told.1, told.2, c.loop-value.invariant, c.in-Some.ensures.steps) (sym (refused_member amount_of (string_bytes c.in-Some.field-0-0.now) (view c.in-Some.value.now) (members_view c.next.new.self) fault bad))

pub loop-value-preserved : goal.loop-value-preserved
loop-value-preserved c =
    let good : checked (amount_of (view c.in-Some.value.now)) ≡ Ok tt = ap checked (sym c.amount_of.ensures ∙ c.in_ok-amount_of.was) in
    rw (c.loop-value.invariant, c.in-Some.ensures.steps) (checked_member amount_of (string_bytes c.in-Some.field-0-0.now) (view c.in-Some.value.now) (members_view c.next.new.self) good)
