use Rattle.lg_declare.proofs.DeclaringLemmas.{gives, goes_on, stopped, wants}
use Rattle.lg_declare.specs.Parameters.{parameter_in}
use Rattle.std.proofs.Common.{refl}
use Rattle.lg_declare.proofs.parameters.parameter_in.Goals as goal

pub returns-in_err-kind : goal.returns-in_err-kind
unfolding parameter_in
returns-in_err-kind c = stopped _ _ _ _ c.in_err-kind.ensures c.from_residual.ensures.1

pub returns-in_err-default : goal.returns-in_err-default
unfolding parameter_in
returns-in_err-default c = goes_on _ _ _ _ c.in_ok-kind.ensures (stopped _ _ _ _ c.in_err-default.ensures c.from_residual-in_err-default.ensures.1)

pub returns-in_err-significant : goal.returns-in_err-significant
unfolding parameter_in
returns-in_err-significant c = goes_on _ _ _ _ c.in_ok-kind.ensures (goes_on _ _ _ _ c.in_ok-default.ensures (stopped _ _ _ _ c.in_err-significant.ensures c.from_residual-in_err-significant.ensures.1))

pub returns-in_err-whole : goal.returns-in_err-whole
unfolding parameter_in
returns-in_err-whole c = goes_on _ _ _ _ c.in_ok-kind.ensures (goes_on _ _ _ _ c.in_ok-default.ensures (goes_on _ _ _ _ c.in_ok-significant.ensures (stopped _ _ _ _ c.in_err-whole.ensures c.from_residual-in_err-whole.ensures.1)))

pub returns-in_err-chosen : goal.returns-in_err-chosen
unfolding parameter_in
returns-in_err-chosen c = goes_on _ _ _ _ c.in_ok-kind.ensures (goes_on _ _ _ _ c.in_ok-default.ensures (goes_on _ _ _ _ c.in_ok-significant.ensures (goes_on _ _ _ _ c.in_ok-whole.ensures (stopped _ _ _ _ c.in_err-chosen.ensures c.from_residual-in_err-chosen.ensures.1))))

pub returns-in_err-batch : goal.returns-in_err-batch
unfolding parameter_in
returns-in_err-batch c = goes_on _ _ _ _ c.in_ok-kind.ensures (goes_on _ _ _ _ c.in_ok-default.ensures (goes_on _ _ _ _ c.in_ok-significant.ensures (goes_on _ _ _ _ c.in_ok-whole.ensures (goes_on _ _ _ _ c.in_ok-chosen.ensures (stopped _ _ _ _ c.in_err-batch.ensures c.from_residual-in_err-batch.ensures.1)))))

pub returns-in_err-name : goal.returns-in_err-name
unfolding parameter_in
returns-in_err-name c = goes_on _ _ _ _ c.in_ok-kind.ensures (goes_on _ _ _ _ c.in_ok-default.ensures (goes_on _ _ _ _ c.in_ok-significant.ensures (goes_on _ _ _ _ c.in_ok-whole.ensures (goes_on _ _ _ _ c.in_ok-chosen.ensures (goes_on _ _ _ _ c.in_ok-batch.ensures (wants _ _ c.from_residual-in_err-name.ensures.1))))))

pub returns : goal.returns
unfolding parameter_in
returns c = goes_on _ _ _ _ c.in_ok-kind.ensures (goes_on _ _ _ _ c.in_ok-default.ensures (goes_on _ _ _ _ c.in_ok-significant.ensures (goes_on _ _ _ _ c.in_ok-whole.ensures (goes_on _ _ _ _ c.in_ok-chosen.ensures (goes_on _ _ _ _ c.in_ok-batch.ensures (gives _ _ (rw (c.in_ok-name.ensures, c.first_of.ensures) refl)))))))
