use Rattle.lg_declare.proofs.DeclaringLemmas.{or_default, or_read}
use Rattle.lg_declare.proofs.declarations.families_at.Goals as goal

pub returns-in-Some : goal.returns-in-Some
returns-in-Some c = or_read _ _ _ _ _ _ c.get.ensures c.in-Some.is c.families_of.ensures

pub returns-in-None : goal.returns-in-None
returns-in-None c = rw c.new.ensures (or_default _ _ _ _ c.get.ensures c.in-None.is)
