use Rattle.lg_declare.proofs.DeclaringLemmas.{gives, goes_on, stopped, wants}
use Rattle.lg_declare.specs.Requirements.{given_of}
use Rattle.std.proofs.Common.{sym, refl}
use Rattle.lg_declare.proofs.requirements.given_of.Goals as goal

pub returns-in_err-ensured : goal.returns-in_err-ensured
unfolding given_of
returns-in_err-ensured c = rw (sym c.has_parameter.ensures) (stopped _ _ _ _ c.in_err-ensured.ensures c.from_residual.ensures.1)

pub returns-in_err-template : goal.returns-in_err-template
unfolding given_of
returns-in_err-template c = rw (sym c.has_parameter.ensures) (goes_on _ _ _ _ c.in_ok-ensured.ensures (stopped _ _ _ _ c.in_err-template.ensures c.from_residual-in_err-template.ensures.1))

pub returns-in_err-name : goal.returns-in_err-name
unfolding given_of
returns-in_err-name c = rw (sym c.has_parameter.ensures) (goes_on _ _ _ _ c.in_ok-ensured.ensures (goes_on _ _ _ _ c.in_ok-template.ensures (wants _ _ c.from_residual-in_err-name.ensures.1)))

pub returns : goal.returns
unfolding given_of
returns c = rw (sym c.has_parameter.ensures) (goes_on _ _ _ _ c.in_ok-ensured.ensures (goes_on _ _ _ _ c.in_ok-template.ensures (gives _ _ (rw c.in_ok-name.ensures refl))))
