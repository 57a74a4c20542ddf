use Rattle.lg_declare.proofs.DeclaringLemmas.{gives, goes_on, stopped}
use Rattle.lg_declare.specs.Commands.{external_of}
use Rattle.std.proofs.Common.{refl, sym}
use Rattle.lg_declare.proofs.commands.external_of.Goals as goal

pub returns-in_err-external : goal.returns-in_err-external
unfolding external_of
returns-in_err-external c = stopped _ _ _ _ c.in_err-external.ensures c.from_residual.ensures.1

pub returns-in_err-ensured : goal.returns-in_err-ensured
unfolding external_of
returns-in_err-ensured c = goes_on _ _ _ _ c.in_ok-external.ensures (rw (sym c.agrees.ensures) (stopped _ _ _ _ c.in_err-ensured.ensures c.from_residual-in_err-ensured.ensures.1))

pub returns : goal.returns
unfolding external_of
returns c = goes_on _ _ _ _ c.in_ok-external.ensures (rw (sym c.agrees.ensures) (goes_on _ _ _ _ c.in_ok-ensured.ensures (gives _ _ refl)))
