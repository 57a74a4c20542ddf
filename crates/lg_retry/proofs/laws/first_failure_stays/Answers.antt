use Rattle.lg_retry.proofs.Lives.{first_of_all}
use Rattle.lg_retry.proofs.laws.first_failure_stays.Goals as goal

pub returns : goal.returns
returns c = first_of_all
