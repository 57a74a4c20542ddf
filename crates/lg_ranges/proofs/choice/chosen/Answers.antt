use Rattle.std.proofs.Common.{◌≡◌, ◌∙◌, FitsSigned, w64, take, ap, rules, arith}
use Rattle.std.proofs.lemmas.Int.{ints, to_z-of_z}
use Rattle.lg_ranges.specs.Required.{in_order, missing_points}
use Rattle.lg_ranges.proofs.RangeLemmas.{end_of_values, from_ends}
use Rattle.lg_ranges.proofs.choice.chosen.Goals as goal

pub missing_from-requires-clause-few : goal.missing_from-requires-clause-few
missing_from-requires-clause-few c =
    let from = from_ends c.args.ask.now c.args.missing.now c.points-first.result c.points-first.ensures.points c.requires in
    omega (arith, ints, end_of_values c.args.ask.now c.args.missing.now c.points-first.result c.points-first.ensures.points from, c.points-first.ensures.few)

pub missing_from-requires-clause-small : goal.missing_from-requires-clause-small
missing_from-requires-clause-small c =
    let from = from_ends c.args.ask.now c.args.missing.now c.points-first.result c.points-first.ensures.points c.requires in
    let fits : FitsSigned w64 c.points-first.result.1 = search rules in
    let first_fits : FitsSigned w64 c.points-first.result.0 = search rules in
    omega (arith, ints, end_of_values c.args.ask.now c.args.missing.now c.points-first.result c.points-first.ensures.points from)

pub returns : goal.returns
returns c =
    let fits : FitsSigned w64 c.points-first.result.0 = search rules in
    let numbers : c.in_ok-missing_from.field-0.items ≡ missing_points c.points-first.result.0 c.args.missing.now =
    simp to_z-of_z at c.in_ok-missing_from.ensures in
    record {
      first = c.points-first.result.0;
      are_points = from_ends c.args.ask.now c.args.missing.now c.points-first.result c.points-first.ensures.points c.requires;
      listed = c.truncate.ensures.items ∙ ap (take c.args.ask.now.limit) (c.turned-chosen.ensures ∙ ap (in_order c.args.ask.now.reverse) numbers);
    }
