use Rattle.std.proofs.Common.{sym}
use Rattle.lg_declare.proofs.DeclaringLemmas.{goes_on, stopped}
use Rattle.lg_declare.specs.Parameters.{parameter_of}
use Rattle.lg_declare.proofs.parameters.parameter_of.Goals as goal

pub returns-in_err-ensured : goal.returns-in_err-ensured
unfolding parameter_of
returns-in_err-ensured c = rw (sym c.is_name.ensures) (stopped _ _ _ _ c.in_err-ensured.ensures c.from_residual.ensures.1)

pub returns-in_err-members : goal.returns-in_err-members
unfolding parameter_of
returns-in_err-members c = rw (sym c.is_name.ensures) (goes_on _ _ _ _ c.in_ok-ensured.ensures (stopped _ _ _ _ c.in_err-members.ensures c.from_residual-in_err-members.ensures.1))

pub returns-in_err-only_keys : goal.returns-in_err-only_keys
unfolding parameter_of
returns-in_err-only_keys c = rw (sym c.is_name.ensures) (goes_on _ _ _ _ c.in_ok-ensured.ensures (goes_on _ _ _ _ c.in_ok-members.ensures (stopped _ _ _ _ c.in_err-only_keys.ensures c.from_residual-in_err-only_keys.ensures.1)))

pub returns : goal.returns
unfolding parameter_of
returns c = rw (sym c.is_name.ensures) (goes_on _ _ _ _ c.in_ok-ensured.ensures (goes_on _ _ _ _ c.in_ok-members.ensures (goes_on _ _ _ _ c.in_ok-only_keys.ensures c.parameter_in.ensures)))
