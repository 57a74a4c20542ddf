use Rattle.lg_target.proofs.TargetLemmas.{old_or_whole}
use Rattle.lg_target.proofs.laws.old_or_whole.Goals as goal

pub returns : goal.returns
returns c = old_or_whole
