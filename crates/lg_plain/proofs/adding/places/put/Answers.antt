use Rattle.std.proofs.Common.{◌≡◌, ◌∙◌, get_or, not, sym, ap}
use Rattle.std.specs.List.{position}
use Rattle.std.specs.Ordering.{nat_cmp, is_eq, is_gt}
use Rattle.std.specs.Cmp.Lexicographic.{slice_cmp}
use Rattle.std.proofs.lemmas.List.{get_or_default}
use Rattle.lg_plain.proofs.PlaceLemmas.{put-last, put-at}
use Rattle.lg_plain.proofs.adding.places.put.Goals as goal

pub returns-in_default : goal.returns-in_default
returns-in_default g c =
    let cmp = λ (one other : g.row.T.Denot). slice_cmp nat_cmp (g.T.Placed.bytes_of one) (g.T.Placed.bytes_of other) in
    let none = ap (position (λ x. not (is_gt (cmp c.args.item x)))) (sym c.as_slice.ensures.value) ∙ sym c.in_default.ensures in
    record { err = tt; ok = c.in_ok-push.ensures.items ∙ sym (put-last cmp c.args.item c.args.items.now.items none) }

pub returns-then-is_eq : goal.returns-then-is_eq
returns-then-is_eq g c =
    let cmp = λ (one other : g.row.T.Denot). slice_cmp nat_cmp (g.T.Placed.bytes_of one) (g.T.Placed.bytes_of other) in
    let items = c.args.items.now.items in
    let found = ap (position (λ x. not (is_gt (cmp c.args.item x)))) (sym c.as_slice.ensures.value) ∙ sym c.in-Some.ensures in
    let put = put-at cmp c.args.item items c.in-Some.place found in
    let here : c.index.result.now ≡ get_or items c.in-Some.place c.args.item = c.index.ensures ∙ get_or_default items c.in-Some.place c.index.result.now c.args.item put.inside in
    record { err = tt; ok = sym (put.same (ap (λ x. is_eq (cmp c.args.item x)) (sym here) ∙ ap is_eq (sym c.compare.ensures) ∙ sym c.is_eq.ensures ∙ c.if-is_eq.true)) }

pub returns-in_ok-insert : goal.returns-in_ok-insert
returns-in_ok-insert g c =
    let cmp = λ (one other : g.row.T.Denot). slice_cmp nat_cmp (g.T.Placed.bytes_of one) (g.T.Placed.bytes_of other) in
    let items = c.args.items.now.items in
    let found = ap (position (λ x. not (is_gt (cmp c.args.item x)))) (sym c.as_slice.ensures.value) ∙ sym c.in-Some.ensures in
    let put = put-at cmp c.args.item items c.in-Some.place found in
    let here : c.index.result.now ≡ get_or items c.in-Some.place c.args.item = c.index.ensures ∙ get_or_default items c.in-Some.place c.index.result.now c.args.item put.inside in
    record {
      err = tt;
      ok = c.in_ok-insert.ensures.items
          ∙ sym (put.apart (ap (λ x. is_eq (cmp c.args.item x)) (sym here) ∙ ap is_eq (sym c.compare.ensures) ∙ sym c.is_eq.ensures ∙ c.if-is_eq.false));
    }
