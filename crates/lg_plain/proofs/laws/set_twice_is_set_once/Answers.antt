use Rattle.lg_plain.proofs.LawLemmas.{set_status-set_status}
use Rattle.lg_plain.proofs.laws.set_twice_is_set_once.Goals as goal

pub returns : goal.returns
returns c = set_status-set_status
