use Rattle.lg_desk.proofs.Ends.{over_for_good}
use Rattle.lg_desk.proofs.laws.over_stays.Goals as goal

pub returns : goal.returns
returns c = over_for_good
