use Rattle.lg_plain.proofs.AddedLemmas.{nobody-added}
use Rattle.lg_plain.proofs.laws.a_disabled_worker_wants_nothing.Goals as goal

pub returns : goal.returns
returns c = nobody-added
