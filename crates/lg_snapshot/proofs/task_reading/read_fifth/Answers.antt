use Rattle.std.proofs.Common.{refl}
use Rattle.lg_snapshot.specs.TaskReading.{fifth}
use Rattle.lg_snapshot.proofs.ReadingLemmas.{then_reads, stopped_reads, done_reads}
use Rattle.lg_snapshot.proofs.task_reading.read_fifth.Goals as goal

pub returns-in_err-stakeholders : goal.returns-in_err-stakeholders
unfolding fifth
returns-in_err-stakeholders c =
    stopped_reads _ _ _ _ _ _ _ c.in_err-stakeholders.ensures c.from_residual.ensures.1

pub returns-in_err-status : goal.returns-in_err-status
unfolding fifth
returns-in_err-status c =
    then_reads _ _ _ _ _ _ _ c.in_ok-stakeholders.ensures
    (stopped_reads _ _ _ _ _ _ _ c.in_err-status.ensures c.from_residual-in_err-status.ensures.1)

pub returns-in_err-status_message : goal.returns-in_err-status_message
unfolding fifth
returns-in_err-status_message c =
    then_reads _ _ _ _ _ _ _ c.in_ok-stakeholders.ensures
    (then_reads _ _ _ _ _ _ _ c.in_ok-status.ensures
    (stopped_reads _ _ _ _ _ _ _ c.in_err-status_message.ensures c.from_residual-in_err-status_message.ensures.1))

pub returns-in_err-time_running : goal.returns-in_err-time_running
unfolding fifth
returns-in_err-time_running c =
    then_reads _ _ _ _ _ _ _ c.in_ok-stakeholders.ensures
    (then_reads _ _ _ _ _ _ _ c.in_ok-status.ensures
    (then_reads _ _ _ _ _ _ _ c.in_ok-status_message.ensures
    (stopped_reads _ _ _ _ _ _ _ c.in_err-time_running.ensures c.from_residual-in_err-time_running.ensures.1)))

pub returns : goal.returns
unfolding fifth
returns c =
    then_reads _ _ _ _ _ _ _ c.in_ok-stakeholders.ensures
    (then_reads _ _ _ _ _ _ _ c.in_ok-status.ensures
    (then_reads _ _ _ _ _ _ _ c.in_ok-status_message.ensures
    (then_reads _ _ _ _ _ _ _ c.in_ok-time_running.ensures
    (done_reads _ _ _ refl))))
