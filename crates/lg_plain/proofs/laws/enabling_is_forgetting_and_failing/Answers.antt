use Rattle.lg_plain.proofs.LawLemmas.{enable-is}
use Rattle.lg_plain.proofs.laws.enabling_is_forgetting_and_failing.Goals as goal

pub returns : goal.returns
returns c = enable-is
