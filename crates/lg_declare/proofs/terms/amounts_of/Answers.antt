use Rattle.lg_declare.proofs.DeclaringLemmas.{goes_on, stopped}
use Rattle.lg_declare.specs.Terms.{amounts_of}
use Rattle.lg_declare.proofs.terms.amounts_of.Goals as goal

pub returns-in_err-members : goal.returns-in_err-members
unfolding amounts_of
returns-in_err-members c = stopped _ _ _ _ c.in_err-members.ensures c.from_residual.ensures.1

pub returns : goal.returns
unfolding amounts_of
returns c = goes_on _ _ _ _ c.in_ok-members.ensures c.amounts_in.ensures
