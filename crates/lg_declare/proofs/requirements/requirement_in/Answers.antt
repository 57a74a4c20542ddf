use Rattle.lg_declare.proofs.DeclaringLemmas.{gives, goes_on, stopped, wants}
use Rattle.lg_declare.specs.Requirements.{requirement_in}
use Rattle.std.proofs.Common.{refl}
use Rattle.lg_declare.proofs.requirements.requirement_in.Goals as goal

pub returns-in_err-text : goal.returns-in_err-text
unfolding requirement_in
returns-in_err-text c = stopped _ _ _ _ c.in_err-text.ensures c.from_residual.ensures.1

pub returns-in_err-required : goal.returns-in_err-required
unfolding requirement_in
returns-in_err-required c = goes_on _ _ _ _ c.in_ok-text.ensures (stopped _ _ _ _ c.in_err-required.ensures c.from_residual-in_err-required.ensures.1)

pub returns-in_err-params : goal.returns-in_err-params
unfolding requirement_in
returns-in_err-params c = goes_on _ _ _ _ c.in_ok-text.ensures (goes_on _ _ _ _ c.in_ok-required.ensures (stopped _ _ _ _ c.in_err-params.ensures c.from_residual-in_err-params.ensures.1))

pub returns-in_err-task : goal.returns-in_err-task
unfolding requirement_in
returns-in_err-task c = goes_on _ _ _ _ c.in_ok-text.ensures (goes_on _ _ _ _ c.in_ok-required.ensures (goes_on _ _ _ _ c.in_ok-params.ensures (wants _ _ c.from_residual-in_err-task.ensures.1)))

pub returns : goal.returns
unfolding requirement_in
returns c = goes_on _ _ _ _ c.in_ok-text.ensures (goes_on _ _ _ _ c.in_ok-required.ensures (goes_on _ _ _ _ c.in_ok-params.ensures (gives _ _ (rw c.in_ok-task.ensures refl))))
