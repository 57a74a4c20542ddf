use Rattle.lg_declare.proofs.DeclaringLemmas.{gives, goes_on, stopped}
use Rattle.lg_declare.specs.Terms.{retries_in}
use Rattle.std.proofs.Common.{refl}
use Rattle.lg_declare.proofs.terms.retries_in.Goals as goal

pub returns-in_err-retry_count : goal.returns-in_err-retry_count
unfolding retries_in
returns-in_err-retry_count c = stopped _ _ _ _ c.in_err-retry_count.ensures c.from_residual.ensures.1

pub returns-in_err-disable_window : goal.returns-in_err-disable_window
unfolding retries_in
returns-in_err-disable_window c = goes_on _ _ _ _ c.in_ok-retry_count.ensures (stopped _ _ _ _ c.in_err-disable_window.ensures c.from_residual-in_err-disable_window.ensures.1)

pub returns-in_err-disable_hard_timeout : goal.returns-in_err-disable_hard_timeout
unfolding retries_in
returns-in_err-disable_hard_timeout c = goes_on _ _ _ _ c.in_ok-retry_count.ensures (goes_on _ _ _ _ c.in_ok-disable_window.ensures (stopped _ _ _ _ c.in_err-disable_hard_timeout.ensures c.from_residual-in_err-disable_hard_timeout.ensures.1))

pub returns : goal.returns
unfolding retries_in
returns c = goes_on _ _ _ _ c.in_ok-retry_count.ensures (goes_on _ _ _ _ c.in_ok-disable_window.ensures (goes_on _ _ _ _ c.in_ok-disable_hard_timeout.ensures (gives _ _ refl)))
