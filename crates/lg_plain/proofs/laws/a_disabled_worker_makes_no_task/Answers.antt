use Rattle.lg_plain.proofs.AddedLemmas.{shut_out-added}
use Rattle.lg_plain.proofs.laws.a_disabled_worker_makes_no_task.Goals as goal

pub returns : goal.returns
returns c = shut_out-added
