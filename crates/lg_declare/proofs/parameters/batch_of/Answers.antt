use Rattle.lg_declare.proofs.DeclaringLemmas.{gives, goes_on, stopped}
use Rattle.lg_declare.specs.Parameters.{batch_of}
use Rattle.std.proofs.Common.{refl}
use Rattle.lg_declare.proofs.parameters.batch_of.Goals as goal

pub returns-in_err-word : goal.returns-in_err-word
unfolding batch_of
returns-in_err-word c = stopped _ _ _ _ c.in_err-word.ensures c.from_residual.ensures.1

pub returns-in_err-batch : goal.returns-in_err-batch
unfolding batch_of
returns-in_err-batch c = goes_on _ _ _ _ c.in_ok-word.ensures (stopped _ _ _ _ c.in_err-batch.ensures c.from_residual-in_err-batch.ensures.1)

pub returns-in_err-joinable : goal.returns-in_err-joinable
unfolding batch_of
returns-in_err-joinable c = goes_on _ _ _ _ c.in_ok-word.ensures (goes_on _ _ _ _ c.in_ok-batch.ensures (stopped _ _ _ _ c.in_err-joinable.ensures c.from_residual-in_err-joinable.ensures.1))

pub returns : goal.returns
unfolding batch_of
returns c = goes_on _ _ _ _ c.in_ok-word.ensures (goes_on _ _ _ _ c.in_ok-batch.ensures (goes_on _ _ _ _ c.in_ok-joinable.ensures (gives _ _ refl)))
