use Rattle.lg_declare.proofs.DeclaringLemmas.{gives, goes_on, stopped}
use Rattle.lg_declare.specs.Parameters.{choices_of}
use Rattle.std.proofs.Common.{refl}
use Rattle.lg_declare.proofs.parameters.choices_of.Goals as goal

pub returns-in_err-items : goal.returns-in_err-items
unfolding choices_of
returns-in_err-items c = stopped _ _ _ _ c.in_err-items.ensures c.from_residual.ensures.1

pub returns-in_err-choices : goal.returns-in_err-choices
unfolding choices_of
returns-in_err-choices c = goes_on _ _ _ _ c.in_ok-items.ensures (stopped _ _ _ _ c.in_err-choices.ensures c.from_residual-in_err-choices.ensures.1)

pub returns : goal.returns
unfolding choices_of
returns c = goes_on _ _ _ _ c.in_ok-items.ensures (goes_on _ _ _ _ c.in_ok-choices.ensures (gives _ _ (rw c.from_vec.ensures refl)))
