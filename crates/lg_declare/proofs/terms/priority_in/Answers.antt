use Rattle.lg_declare.proofs.DeclaringLemmas.{or_default, or_read}
use Rattle.lg_declare.specs.Terms.{priority_in}
use Rattle.lg_declare.proofs.terms.priority_in.Goals as goal

pub returns-in-Some : goal.returns-in-Some
unfolding priority_in
returns-in-Some c = or_read _ _ _ _ _ _ c.get.ensures c.in-Some.is c.integer_at.ensures

pub returns-in-None : goal.returns-in-None
unfolding priority_in
returns-in-None c = or_default _ _ _ _ c.get.ensures c.in-None.is
