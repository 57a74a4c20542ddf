use Rattle.lg_plain.proofs.LawLemmas.{begins_anew}
use Rattle.lg_plain.proofs.laws.who_is_enabled_begins_anew.Goals as goal

pub returns : goal.returns
returns c = begins_anew
