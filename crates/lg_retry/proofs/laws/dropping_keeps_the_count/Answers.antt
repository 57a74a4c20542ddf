use Rattle.lg_retry.proofs.Lives.{counts_all}
use Rattle.lg_retry.proofs.laws.dropping_keeps_the_count.Goals as goal

pub returns : goal.returns
returns c = counts_all
