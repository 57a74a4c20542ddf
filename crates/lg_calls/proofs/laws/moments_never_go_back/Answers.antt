use Rattle.lg_calls.proofs.StepLemmas.{step-rises}
use Rattle.lg_calls.proofs.laws.moments_never_go_back.Goals as goal

pub returns : goal.returns
returns c = step-rises
