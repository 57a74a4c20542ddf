use Rattle.lg_ranges.proofs.RangeLemmas.{one_range, no_point}
use Rattle.lg_ranges.proofs.laws.one_range.Goals as goal

pub returns-clause-same : goal.returns-clause-same
returns-clause-same c = one_range

pub returns-clause-none : goal.returns-clause-none
returns-clause-none c = no_point
