use Rattle.lg_declare.proofs.KindLemmas.{default_refused, default_taken}
use Rattle.lg_declare.proofs.parameters.ensure_reads.Goals as goal

pub returns-in-None : goal.returns-in-None
returns-in-None c = default_taken _ _ c.in-None.ensures

pub returns-in-Some : goal.returns-in-Some
returns-in-Some c = default_refused _ _ _ _ c.in-Some.ensures c.unread.ensures.memory c.unread.ensures.other
