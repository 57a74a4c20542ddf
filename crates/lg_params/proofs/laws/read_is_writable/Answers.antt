use Rattle.lg_params.proofs.KindLemmas.{writable}
use Rattle.lg_params.proofs.laws.read_is_writable.Goals as goal

pub returns : goal.returns
returns c = writable
