use Rattle.std.proofs.Common.{◌≡◌, ◌<◌, ◌^◌, FitsSigned, w64, rules, arith}
use Rattle.std.specs.Int.{int_max}
use Rattle.std.proofs.lemmas.Int.{ints, to_z-of_z}
use Rattle.lg_ranges.proofs.RangeLemmas.{are_points, few}
use Rattle.lg_ranges.proofs.range.points.Goals as goal

pub returns-clause-points : goal.returns-clause-points
returns-clause-points c =
    let fits_first : FitsSigned w64 c.not_before-first.result = search rules in
    let fits_behind : FitsSigned w64 c.up_to-behind.result = search rules in
    let fits_last : FitsSigned w64 c.max.result = search rules in
    let last_is : c.max.result ≡ int_max c.up_to-behind.result c.not_before-first.result = simp to_z-of_z at c.max.ensures.value in
    rw (to_z-of_z w64 c.not_before-first.result fits_first, to_z-of_z w64 c.max.result fits_last)
    (are_points c.args.ask.now c.first_from-now.result c.not_before-first.result c.up_to-behind.result c.max.result c.first_from-now.ensures.first
    (λ number.
    let low = c.not_before-first.ensures number in
    (λ is. ((low.0 is).0, omega (arith, ints, (low.0 is).1, c.from.ensures)), λ both. low.1 (both.0, omega (arith, ints, both.1, c.from.ensures))))
    (λ number.
    let high = c.up_to-behind.ensures number in
    (λ is. ((high.0 is).0, omega (arith, ints, (high.0 is).1, c.from-2.ensures)), λ both. high.1 (both.0, omega (arith, ints, both.1, c.from-2.ensures))))
    last_is (omega (arith, ints, c.max.ensures.other_bound)) (omega (arith, ints, c.max.ensures.self_bound)))

pub returns-clause-few : goal.returns-clause-few
returns-clause-few c =
    let back : c.args.ask.now.back < 2 ^ 32 = search rules in
    let forward : c.args.ask.now.forward < 2 ^ 32 = search rules in
    omega (arith, ints, few _ _ (returns-clause-points c))
