use Rattle.lg_declare.proofs.KindLemmas.{reads_decides}
use Rattle.lg_declare.proofs.laws.kinds_read_what_is_spelled.Goals as goal

pub returns : goal.returns
returns c = reads_decides
