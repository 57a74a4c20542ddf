use Rattle.lg_taskid.proofs.Apart.{pairs_same}
use Rattle.lg_taskid.proofs.laws.canonical_texts_tell_apart.Goals as goal

pub returns : goal.returns
returns c = pairs_same
