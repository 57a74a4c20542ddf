use Rattle.std.proofs.Common.{ap}
use Rattle.lg_work.specs.Sums.{sum_in}
use Rattle.lg_work.proofs.sums.Sums.new.Goals as goal

pub returns : goal.returns
returns c = ap sum_in c.new.ensures.items
