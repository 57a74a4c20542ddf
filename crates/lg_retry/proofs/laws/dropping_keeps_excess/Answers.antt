use Rattle.lg_retry.proofs.Lives.{excess_of_all}
use Rattle.lg_retry.proofs.laws.dropping_keeps_excess.Goals as goal

pub returns : goal.returns
returns c = excess_of_all
