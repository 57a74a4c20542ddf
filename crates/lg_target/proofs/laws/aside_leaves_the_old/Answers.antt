use Rattle.lg_target.proofs.TargetLemmas.{old_aside}
use Rattle.lg_target.proofs.laws.aside_leaves_the_old.Goals as goal

pub returns : goal.returns
returns c = old_aside
