use Rattle.lg_ranges.proofs.RangeLemmas.{beginning}
use Rattle.lg_ranges.proofs.laws.a_beginning_is_the_first.Goals as goal

pub returns : goal.returns
returns c = beginning
