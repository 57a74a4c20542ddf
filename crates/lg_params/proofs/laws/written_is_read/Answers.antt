use Rattle.lg_params.proofs.TextLemmas.{written_spells}
use Rattle.lg_params.proofs.laws.written_is_read.Goals as goal

pub returns : goal.returns
returns c = written_spells
