use Rattle.std.proofs.Common.{◌≡◌, ℕ, ◌+◌, List, get_or, set, sym, ap, ◌∙◌, arith}
use Rattle.std.specs.List.{position}
use Rattle.std.proofs.lemmas.Result.{on_ok_weaker}
use Rattle.lg_calls.specs.Order.{is_same}
use Rattle.lg_work.specs.Sums.{sum_in}
use Rattle.lg_work.proofs.SumsLemmas.{added_there, added_new, sum_there}
use Rattle.lg_work.proofs.sums.add_one.Goals as goal

pub raise-requires : goal.raise-requires
raise-requires c =
    let items = c.args.pairs.now.items in
    let found = ap (position (λ (pair : List ℕ × ℕ). is_same c.args.name.now pair.0)) (sym c.as_slice.ensures.value) ∙ sym c.in-Some.ensures in
    let there : (get_or items c.in-Some.place c.index_mut.result.now).1 ≡ sum_in items c.args.name.now =
    sum_there c.args.name.now items c.in-Some.place c.index_mut.result.now found in
    let here : c.index_mut.result.now.1 ≡ (get_or items c.in-Some.place c.index_mut.result.now).1 = ap (λ (pair : List ℕ × ℕ). pair.1) c.index_mut.ensures.value in
    omega (arith, c.requires, there, here)

pub returns-in-Some : goal.returns-in-Some
returns-in-Some c =
    let items = c.args.pairs.now.items in
    let found = ap (position (λ (pair : List ℕ × ℕ). is_same c.args.name.now pair.0)) (sym c.as_slice.ensures.value) ∙ sym c.in-Some.ensures in
    λ other. added_there c.args.name.now c.args.amount items _ c.in-Some.place c.index_mut.result.now found
    (ap (set items c.in-Some.place) (c.raise.ensures ∙ ap (λ (pair : List ℕ × ℕ). (pair.0, pair.1 + c.args.amount)) c.index_mut.ensures.value)) other

pub returns-in-None : goal.returns-in-None
returns-in-None c =
    let items = c.args.pairs.now.items in
    let none = ap (position (λ (pair : List ℕ × ℕ). is_same c.args.name.now pair.0)) (sym c.as_slice.ensures.value) ∙ sym c.in-None.ensures in
    on_ok_weaker c.append.result (λ grown other. added_new c.args.name.now c.args.amount items _ none grown other) c.append.ensures
