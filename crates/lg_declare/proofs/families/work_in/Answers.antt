use Rattle.lg_declare.proofs.DeclaringLemmas.{gives, goes_on, stopped}
use Rattle.lg_declare.specs.Families.{work_in}
use Rattle.std.proofs.Common.{refl}
use Rattle.lg_declare.proofs.families.work_in.Goals as goal

pub returns-in_err-command : goal.returns-in_err-command
unfolding work_in
returns-in_err-command c = stopped _ _ _ _ c.in_err-command.ensures c.from_residual.ensures.1

pub returns-in_err-outputs : goal.returns-in_err-outputs
unfolding work_in
returns-in_err-outputs c = goes_on _ _ _ _ c.in_ok-command.ensures (stopped _ _ _ _ c.in_err-outputs.ensures c.from_residual-in_err-outputs.ensures.1)

pub returns-in_err-external : goal.returns-in_err-external
unfolding work_in
returns-in_err-external c = goes_on _ _ _ _ c.in_ok-command.ensures (goes_on _ _ _ _ c.in_ok-outputs.ensures (stopped _ _ _ _ c.in_err-external.ensures c.from_residual-in_err-external.ensures.1))

pub returns-in_err-requirements : goal.returns-in_err-requirements
unfolding work_in
returns-in_err-requirements c = goes_on _ _ _ _ c.in_ok-command.ensures (goes_on _ _ _ _ c.in_ok-outputs.ensures (goes_on _ _ _ _ c.in_ok-external.ensures (stopped _ _ _ _ c.in_err-requirements.ensures c.from_residual-in_err-requirements.ensures.1)))

pub returns : goal.returns
unfolding work_in
returns c = goes_on _ _ _ _ c.in_ok-command.ensures (goes_on _ _ _ _ c.in_ok-outputs.ensures (goes_on _ _ _ _ c.in_ok-external.ensures (goes_on _ _ _ _ c.in_ok-requirements.ensures (gives _ _ refl))))
