use Rattle.std.proofs.Common.{arith}
use Rattle.std.proofs.lemmas.Int.{ints}
use Rattle.lg_ranges.proofs.CallerLemmas.{one_per_point}
use Rattle.lg_ranges.proofs.tests.required_beside.Goals as goal

pub required-requires : goal.required-requires
required-requires c =
    one_per_point c.args.ask.now c.as_slice.result.now c.points-first.result.0 c.points-first.result.1 c.points-first.ensures.points
    (omega (arith, ints, c.as_slice.ensures.len, c.loop-place.invariant, c.points-first.ensures.points.in_order, c.points-first.ensures.few))
