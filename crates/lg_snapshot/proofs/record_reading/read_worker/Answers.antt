use Rattle.std.proofs.Common.{refl}
use Rattle.lg_snapshot.specs.RecordReadings.{worker}
use Rattle.lg_snapshot.proofs.ReadingLemmas.{then_reads, stopped_reads, done_reads}
use Rattle.lg_snapshot.proofs.record_reading.read_worker.Goals as goal

pub returns-in_err-disabled : goal.returns-in_err-disabled
unfolding worker
returns-in_err-disabled c =
    stopped_reads _ _ _ _ _ _ _ c.in_err-disabled.ensures c.from_residual.ensures.1

pub returns-in_err-id : goal.returns-in_err-id
unfolding worker
returns-in_err-id c =
    then_reads _ _ _ _ _ _ _ c.in_ok-disabled.ensures
    (stopped_reads _ _ _ _ _ _ _ c.in_err-id.ensures c.from_residual-in_err-id.ensures.1)

pub returns-in_err-info : goal.returns-in_err-info
unfolding worker
returns-in_err-info c =
    then_reads _ _ _ _ _ _ _ c.in_ok-disabled.ensures
    (then_reads _ _ _ _ _ _ _ c.in_ok-id.ensures
    (stopped_reads _ _ _ _ _ _ _ c.in_err-info.ensures c.from_residual-in_err-info.ensures.1))

pub returns-in_err-last_active : goal.returns-in_err-last_active
unfolding worker
returns-in_err-last_active c =
    then_reads _ _ _ _ _ _ _ c.in_ok-disabled.ensures
    (then_reads _ _ _ _ _ _ _ c.in_ok-id.ensures
    (then_reads _ _ _ _ _ _ _ c.in_ok-info.ensures
    (stopped_reads _ _ _ _ _ _ _ c.in_err-last_active.ensures c.from_residual-in_err-last_active.ensures.1)))

pub returns-in_err-last_get_work : goal.returns-in_err-last_get_work
unfolding worker
returns-in_err-last_get_work c =
    then_reads _ _ _ _ _ _ _ c.in_ok-disabled.ensures
    (then_reads _ _ _ _ _ _ _ c.in_ok-id.ensures
    (then_reads _ _ _ _ _ _ _ c.in_ok-info.ensures
    (then_reads _ _ _ _ _ _ _ c.in_ok-last_active.ensures
    (stopped_reads _ _ _ _ _ _ _ c.in_err-last_get_work.ensures c.from_residual-in_err-last_get_work.ensures.1))))

pub returns-in_err-started : goal.returns-in_err-started
unfolding worker
returns-in_err-started c =
    then_reads _ _ _ _ _ _ _ c.in_ok-disabled.ensures
    (then_reads _ _ _ _ _ _ _ c.in_ok-id.ensures
    (then_reads _ _ _ _ _ _ _ c.in_ok-info.ensures
    (then_reads _ _ _ _ _ _ _ c.in_ok-last_active.ensures
    (then_reads _ _ _ _ _ _ _ c.in_ok-last_get_work.ensures
    (stopped_reads _ _ _ _ _ _ _ c.in_err-started.ensures c.from_residual-in_err-started.ensures.1)))))

pub returns : goal.returns
unfolding worker
returns c =
    then_reads _ _ _ _ _ _ _ c.in_ok-disabled.ensures
    (then_reads _ _ _ _ _ _ _ c.in_ok-id.ensures
    (then_reads _ _ _ _ _ _ _ c.in_ok-info.ensures
    (then_reads _ _ _ _ _ _ _ c.in_ok-last_active.ensures
    (then_reads _ _ _ _ _ _ _ c.in_ok-last_get_work.ensures
    (then_reads _ _ _ _ _ _ _ c.in_ok-started.ensures
    (done_reads _ _ _ refl))))))
