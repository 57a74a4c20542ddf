use Rattle.std.proofs.Common.{arith}
use Rattle.std.proofs.lemmas.Int.{ints}
use Rattle.lg_ranges.proofs.laws.hours_of_a_day.Goals as goal

pub returns : goal.returns
returns c = λ day hour. omega (arith, ints)
