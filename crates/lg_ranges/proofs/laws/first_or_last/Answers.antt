use Rattle.lg_ranges.proofs.RequiredLemmas.{first_or_last}
use Rattle.lg_ranges.proofs.laws.first_or_last.Goals as goal

pub returns : goal.returns
returns c = first_or_last
