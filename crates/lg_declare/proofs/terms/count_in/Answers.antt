use Rattle.lg_declare.proofs.DeclaringLemmas.{or_default, or_read}
use Rattle.lg_declare.specs.Terms.{count_in}
use Rattle.lg_declare.proofs.terms.count_in.Goals as goal

pub returns-in-Some : goal.returns-in-Some
unfolding count_in
returns-in-Some c = or_read _ _ _ _ _ _ c.get.ensures c.in-Some.is c.some_count_at.ensures

pub returns-in-None : goal.returns-in-None
unfolding count_in
returns-in-None c = or_default _ _ _ _ c.get.ensures c.in-None.is
