use Rattle.lg_ranges.proofs.RangeLemmas.{few}
use Rattle.lg_ranges.proofs.laws.few_points.Goals as goal

pub returns : goal.returns
returns c = few
