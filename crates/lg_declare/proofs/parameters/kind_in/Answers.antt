use Rattle.lg_declare.proofs.DeclaringLemmas.{or_default, or_read}
use Rattle.lg_declare.specs.Parameters.{kind_in}
use Rattle.lg_declare.proofs.parameters.kind_in.Goals as goal

pub returns-in-Some : goal.returns-in-Some
unfolding kind_in
returns-in-Some c = or_read _ _ _ _ _ _ c.get.ensures c.in-Some.is c.kind_of.ensures

pub returns-in-None : goal.returns-in-None
unfolding kind_in
returns-in-None c = or_default _ _ _ _ c.get.ensures c.in-None.is
