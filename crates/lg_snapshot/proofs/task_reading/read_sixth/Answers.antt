use Rattle.std.proofs.Common.{refl}
use Rattle.lg_snapshot.specs.TaskReading.{sixth}
use Rattle.lg_snapshot.proofs.ReadingLemmas.{then_reads, stopped_reads, done_reads}
use Rattle.lg_snapshot.proofs.task_reading.read_sixth.Goals as goal

pub returns-in_err-tracking_url : goal.returns-in_err-tracking_url
unfolding sixth
returns-in_err-tracking_url c =
    stopped_reads _ _ _ _ _ _ _ c.in_err-tracking_url.ensures c.from_residual.ensures.1

pub returns-in_err-updated : goal.returns-in_err-updated
unfolding sixth
returns-in_err-updated c =
    then_reads _ _ _ _ _ _ _ c.in_ok-tracking_url.ensures
    (stopped_reads _ _ _ _ _ _ _ c.in_err-updated.ensures c.from_residual-in_err-updated.ensures.1)

pub returns-in_err-worker_running : goal.returns-in_err-worker_running
unfolding sixth
returns-in_err-worker_running c =
    then_reads _ _ _ _ _ _ _ c.in_ok-tracking_url.ensures
    (then_reads _ _ _ _ _ _ _ c.in_ok-updated.ensures
    (stopped_reads _ _ _ _ _ _ _ c.in_err-worker_running.ensures c.from_residual-in_err-worker_running.ensures.1))

pub returns-in_err-workers : goal.returns-in_err-workers
unfolding sixth
returns-in_err-workers c =
    then_reads _ _ _ _ _ _ _ c.in_ok-tracking_url.ensures
    (then_reads _ _ _ _ _ _ _ c.in_ok-updated.ensures
    (then_reads _ _ _ _ _ _ _ c.in_ok-worker_running.ensures
    (stopped_reads _ _ _ _ _ _ _ c.in_err-workers.ensures c.from_residual-in_err-workers.ensures.1)))

pub returns : goal.returns
unfolding sixth
returns c =
    then_reads _ _ _ _ _ _ _ c.in_ok-tracking_url.ensures
    (then_reads _ _ _ _ _ _ _ c.in_ok-updated.ensures
    (then_reads _ _ _ _ _ _ _ c.in_ok-worker_running.ensures
    (then_reads _ _ _ _ _ _ _ c.in_ok-workers.ensures
    (done_reads _ _ _ refl))))
