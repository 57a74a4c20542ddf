use Rattle.lg_ranges.proofs.RangeLemmas.{bounds}
use Rattle.lg_ranges.proofs.laws.bounds_in_numbers.Goals as goal

pub returns : goal.returns
returns c = bounds
