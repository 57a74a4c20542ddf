use Rattle.lg_declare.proofs.DeclaringLemmas.{gives, goes_on, stopped}
use Rattle.lg_declare.specs.Parameters.{no_choices}
use Rattle.std.proofs.Common.{sym, refl}
use Rattle.lg_declare.proofs.parameters.no_choices.Goals as goal

pub returns-in_err-ensured : goal.returns-in_err-ensured
unfolding no_choices
returns-in_err-ensured c = rw (sym c.is_there.ensures) (stopped _ _ _ _ c.in_err-ensured.ensures c.from_residual.ensures.1)

pub returns : goal.returns
unfolding no_choices
returns c = rw (sym c.is_there.ensures) (goes_on _ _ _ _ c.in_ok-ensured.ensures (gives _ _ refl))
