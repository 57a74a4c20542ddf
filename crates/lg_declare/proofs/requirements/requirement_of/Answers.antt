use Rattle.lg_declare.proofs.DeclaringLemmas.{goes_on, stopped}
use Rattle.lg_declare.specs.Requirements.{requirement_of}
use Rattle.lg_declare.proofs.requirements.requirement_of.Goals as goal

pub returns-in_err-members : goal.returns-in_err-members
unfolding requirement_of
returns-in_err-members c = stopped _ _ _ _ c.in_err-members.ensures c.from_residual.ensures.1

pub returns-in_err-only_keys : goal.returns-in_err-only_keys
unfolding requirement_of
returns-in_err-only_keys c = goes_on _ _ _ _ c.in_ok-members.ensures (stopped _ _ _ _ c.in_err-only_keys.ensures c.from_residual-in_err-only_keys.ensures.1)

pub returns : goal.returns
unfolding requirement_of
returns c = goes_on _ _ _ _ c.in_ok-members.ensures (goes_on _ _ _ _ c.in_ok-only_keys.ensures c.requirement_in.ensures)
