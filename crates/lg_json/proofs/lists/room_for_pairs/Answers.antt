use Rattle.std.proofs.Common.{◌≡◌, Err, sym, ap, ◌∙◌, arith}
use Rattle.std.proofs.lemmas.Result.{err_from_is_err_and}
use Rattle.serde_json.specs.View.{view, members_view}
use Rattle.serde_json.proofs.Views.{view-Object}
use Rattle.lg_json.specs.Fields.{each_member, text_of, pairs_of, checked}
use Rattle.lg_json.proofs.Rooms.{length-each_member}
use Rattle.lg_json.proofs.Rooms.{Gives-fault, checked_ok, wants_none-members, wants_none-text}
use Rattle.lg_json.proofs.lists.room_for_pairs.Goals as goal

pub returns-in_err-check_pairs : goal.returns-in_err-check_pairs
returns-in_err-check_pairs c =
    let fault = c.in_err-check_pairs.field-0.0 in
    let told = err_from_is_err_and c.from_residual.result c.from_residual.ensures.1 in
    let seen : pairs_of (view c.args.value.now) ≡ each_member text_of (members_view c.in-Object.members.entries) = ap (λ v. pairs_of (view v)) c.in-Object.is ∙ ap pairs_of (view-Object c.in-Object.members) in
    let bad : checked (each_member text_of (members_view c.in-Object.members.entries)) ≡ Err fault = sym c.check_pairs.ensures ∙ c.in_err-check_pairs.was in
    rw (told.1, told.2, seen) (Gives-fault fault (each_member text_of (members_view c.in-Object.members.entries)) bad (wants_none-members text_of wants_none-text (members_view c.in-Object.members.entries)))

pub returns : goal.returns
returns c =
    let seen : pairs_of (view c.args.value.now) ≡ each_member text_of (members_view c.in-Object.members.entries) = ap (λ v. pairs_of (view v)) c.in-Object.is ∙ ap pairs_of (view-Object c.in-Object.members) in
    let all = checked_ok (each_member text_of (members_view c.in-Object.members.entries)) (sym c.check_pairs.ensures ∙ c.in_ok-check_pairs.was) in
    rw (seen, all.1) (c.in_ok-with_capacity.ensures.items, omega (arith, length-each_member text_of c.in-Object.members.entries all.0 all.1, c.in_ok-with_capacity.ensures.capacity))
