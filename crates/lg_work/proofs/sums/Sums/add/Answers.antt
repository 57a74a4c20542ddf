use Rattle.std.proofs.Common.{◌≡◌, ℕ, ◌+◌, ◌<◌, ◌≤◌, ◌^◌, List, length, take, get_or, ap, ◌∙◌, subst, arith}
use Rattle.std.proofs.lemmas.List.{take_all}
use Rattle.std.specs.FinMap.{entries}
use Rattle.lg_base.specs.Amounts.{amount_of}
use Rattle.lg_work.specs.Sums.{sum_in, sum_of}
use Rattle.lg_work.proofs.SumsLemmas.{next_entry, small_next, sum_in_entries}
use Rattle.lg_work.proofs.sums.Sums.add.Goals as goal

pub add_one-requires : goal.add_one-requires
add_one-requires c =
    let more = c.args.more.now in
    let i = c.loop-name.name-index in
    let pair = c.loop-name-item.result in
    let inside : i < length (entries more) = omega (arith, ap length c.entries-name-items.ensures) in
    let here : pair ≡ get_or (entries more) i pair = c.loop-name-item.is ∙ ap (λ pairs. get_or pairs i pair) c.entries-name-items.ensures in
    let next = next_entry more i pair inside here in
    omega (arith, c.loop-name.invariant.so_far pair.0, next.nothing_before, c.requires pair.0)

pub loop-name-preserved : goal.loop-name-preserved
loop-name-preserved c =
    let more = c.args.more.now in
    let i = c.loop-name.name-index in
    let pair = c.loop-name-item.result in
    let inside : i < length (entries more) = omega (arith, ap length c.entries-name-items.ensures) in
    let here : pair ≡ get_or (entries more) i pair = c.loop-name-item.is ∙ ap (λ pairs. get_or pairs i pair) c.entries-name-items.ensures in
    let next = next_entry more i pair inside here in
    let lower : pair.1 < 2 ^ 32 = omega arith in
    record {
      so_far = λ name. omega (arith, c.in_ok-add_one.ensures name, c.loop-name.invariant.so_far name, next.grows name);
      small = small_next more i pair next lower c.loop-name.invariant.small;
    }

pub returns : goal.returns
returns c =
    let more = c.args.more.now in
    let i = c.loop-name.name-index in
    let past : length (entries more) ≤ i = omega (arith, ap length c.entries-name-items.ensures) in
    let whole : (name : List ℕ) → sum_in (take i (entries more)) name ≡ amount_of more name =
    λ name. ap (λ pairs. sum_in pairs name) (take_all i (entries more) past) ∙ sum_in_entries more name in
    let all : (name : List ℕ) → sum_of c.loop-name.self name ≡ sum_of c.args.self.now name + amount_of more name =
    λ name. c.loop-name.invariant.so_far name ∙ ap (λ n. sum_of c.args.self.now name + n) (whole name) in
    record {
      added = λ i name. all name i;
      small = λ name. subst (λ n. n < 2 ^ 32) (whole name) (c.loop-name.invariant.small name);
    }
