use Rattle.lg_declare.proofs.DeclaringLemmas.{goes_on, passed, stopped}
use Rattle.lg_declare.specs.Parameters.{parameter_of, parameters_of}
use Rattle.std.proofs.Common.{rules}
use Rattle.lg_declare.proofs.parameters.parameters_of.Goals as goal

pub returns-in_err-members : goal.returns-in_err-members
unfolding parameters_of
returns-in_err-members c = stopped _ _ _ _ c.in_err-members.ensures c.from_residual.ensures.1

pub returns-in_err-all : goal.returns-in_err-all
unfolding parameters_of
returns-in_err-all c = goes_on _ _ _ _ c.in_ok-members.ensures (passed _ _ _ (c.in_err-all.ensures (parameter_of) (λ k v r p. search rules)) c.from_residual-in_err-all.ensures.1)

pub returns : goal.returns
unfolding parameters_of
returns c = goes_on _ _ _ _ c.in_ok-members.ensures (rw c.from_vec.ensures (c.in_ok-all.ensures (parameter_of) (λ k v r p. search rules)))
