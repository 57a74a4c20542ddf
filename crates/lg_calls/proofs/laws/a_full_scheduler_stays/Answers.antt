use Rattle.lg_calls.proofs.StepLemmas.{full-stays}
use Rattle.lg_calls.proofs.laws.a_full_scheduler_stays.Goals as goal

pub returns : goal.returns
returns c = full-stays
