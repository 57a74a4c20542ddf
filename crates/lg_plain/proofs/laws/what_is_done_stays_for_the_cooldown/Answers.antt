use Rattle.lg_plain.proofs.AddedLemmas.{cooling-added}
use Rattle.lg_plain.proofs.laws.what_is_done_stays_for_the_cooldown.Goals as goal

pub returns : goal.returns
returns c = cooling-added
