use Rattle.std.proofs.Common.{◌≡◌, Err, sym, ap, ◌∙◌, arith}
use Rattle.std.proofs.lemmas.Result.{err_from_is_err_and}
use Rattle.serde_json.specs.View.{view, members_view}
use Rattle.serde_json.proofs.Views.{view-Object}
use Rattle.lg_json.specs.Fields.{each_member, amount_of, entries_of, checked}
use Rattle.lg_json.proofs.Rooms.{length-each_member}
use Rattle.lg_json.proofs.Rooms.{Gives-fault, checked_ok, wants_none-members, wants_none-amount}
use Rattle.lg_json.proofs.lists.room_for_amounts.Goals as goal

pub returns-in_err-check_amounts : goal.returns-in_err-check_amounts
returns-in_err-check_amounts c =
    let fault = c.in_err-check_amounts.field-0.0 in
    let told = err_from_is_err_and c.from_residual.result c.from_residual.ensures.1 in
    let seen : entries_of (view c.args.value.now) ≡ each_member amount_of (members_view c.in-Object.members.entries) = ap (λ v. entries_of (view v)) c.in-Object.is ∙ ap entries_of (view-Object c.in-Object.members) in
    let bad : checked (each_member amount_of (members_view c.in-Object.members.entries)) ≡ Err fault = sym c.check_amounts.ensures ∙ c.in_err-check_amounts.was in
    rw (told.1, told.2, seen) (Gives-fault fault (each_member amount_of (members_view c.in-Object.members.entries)) bad (wants_none-members amount_of wants_none-amount (members_view c.in-Object.members.entries)))

pub returns : goal.returns
returns c =
    let seen : entries_of (view c.args.value.now) ≡ each_member amount_of (members_view c.in-Object.members.entries) = ap (λ v. entries_of (view v)) c.in-Object.is ∙ ap entries_of (view-Object c.in-Object.members) in
    let all = checked_ok (each_member amount_of (members_view c.in-Object.members.entries)) (sym c.check_amounts.ensures ∙ c.in_ok-check_amounts.was) in
    rw (seen, all.1) (c.in_ok-with_capacity.ensures.items, omega (arith, length-each_member amount_of c.in-Object.members.entries all.0 all.1, c.in_ok-with_capacity.ensures.capacity))
