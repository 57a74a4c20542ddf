use Rattle.lg_ranges.proofs.RequiredLemmas.{missing_is_point}
use Rattle.lg_ranges.proofs.laws.missing_are_points.Goals as goal

pub returns : goal.returns
returns c = missing_is_point
