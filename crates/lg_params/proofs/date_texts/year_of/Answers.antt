use Rattle.std.proofs.Common.{arith}
use Rattle.std.proofs.lemmas.Int.{ints}
use Rattle.lg_params.proofs.DateLemmas.{year_of_day}
use Rattle.lg_params.proofs.date_texts.year_of.Goals as goal

pub overflow_cast-result : goal.overflow_cast-result
overflow_cast-result c = let year = year_of_day c.args.date c.requires in (omega (arith, ints), omega (arith, ints))

pub returns-clause-same : goal.returns-clause-same
returns-clause-same c = let year = year_of_day c.args.date c.requires in omega (arith, ints)

pub returns-clause-in_range : goal.returns-clause-in_range
returns-clause-in_range c = let year = year_of_day c.args.date c.requires in (omega (arith, ints), omega (arith, ints))
