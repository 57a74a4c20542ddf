use Rattle.lg_declare.proofs.DeclaringLemmas.{or_default, or_read}
use Rattle.lg_declare.specs.Requirements.{givens_in}
use Rattle.lg_declare.proofs.requirements.givens_in.Goals as goal

pub returns-in-Some : goal.returns-in-Some
unfolding givens_in
returns-in-Some c = or_read _ _ _ _ _ _ c.get.ensures c.in-Some.is c.givens_of.ensures

pub returns-in-None : goal.returns-in-None
unfolding givens_in
returns-in-None c = rw c.new.ensures (or_default _ _ _ _ c.get.ensures c.in-None.is)
