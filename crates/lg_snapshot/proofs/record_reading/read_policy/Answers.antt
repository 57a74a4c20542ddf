use Rattle.std.proofs.Common.{refl}
use Rattle.lg_snapshot.specs.RecordReadings.{policy}
use Rattle.lg_snapshot.proofs.ReadingLemmas.{then_reads, stopped_reads, done_reads}
use Rattle.lg_snapshot.proofs.record_reading.read_policy.Goals as goal

pub returns-in_err-disable_hard_timeout : goal.returns-in_err-disable_hard_timeout
unfolding policy
returns-in_err-disable_hard_timeout c =
    stopped_reads _ _ _ _ _ _ _ c.in_err-disable_hard_timeout.ensures c.from_residual.ensures.1

pub returns-in_err-disable_window : goal.returns-in_err-disable_window
unfolding policy
returns-in_err-disable_window c =
    then_reads _ _ _ _ _ _ _ c.in_ok-disable_hard_timeout.ensures
    (stopped_reads _ _ _ _ _ _ _ c.in_err-disable_window.ensures c.from_residual-in_err-disable_window.ensures.1)

pub returns-in_err-retry_count : goal.returns-in_err-retry_count
unfolding policy
returns-in_err-retry_count c =
    then_reads _ _ _ _ _ _ _ c.in_ok-disable_hard_timeout.ensures
    (then_reads _ _ _ _ _ _ _ c.in_ok-disable_window.ensures
    (stopped_reads _ _ _ _ _ _ _ c.in_err-retry_count.ensures c.from_residual-in_err-retry_count.ensures.1))

pub returns : goal.returns
unfolding policy
returns c =
    then_reads _ _ _ _ _ _ _ c.in_ok-disable_hard_timeout.ensures
    (then_reads _ _ _ _ _ _ _ c.in_ok-disable_window.ensures
    (then_reads _ _ _ _ _ _ _ c.in_ok-retry_count.ensures
    (done_reads _ _ _ refl)))
