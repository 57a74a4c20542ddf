use Rattle.std.proofs.Common.{refl}
use Rattle.lg_snapshot.specs.TaskReading.{fourth}
use Rattle.lg_snapshot.proofs.ReadingLemmas.{then_reads, stopped_reads, done_reads}
use Rattle.lg_snapshot.proofs.task_reading.read_fourth.Goals as goal

pub returns-in_err-progress : goal.returns-in_err-progress
unfolding fourth
returns-in_err-progress c =
    stopped_reads _ _ _ _ _ _ _ c.in_err-progress.ensures c.from_residual.ensures.1

pub returns-in_err-remove : goal.returns-in_err-remove
unfolding fourth
returns-in_err-remove c =
    then_reads _ _ _ _ _ _ _ c.in_ok-progress.ensures
    (stopped_reads _ _ _ _ _ _ _ c.in_err-remove.ensures c.from_residual-in_err-remove.ensures.1)

pub returns-in_err-resources : goal.returns-in_err-resources
unfolding fourth
returns-in_err-resources c =
    then_reads _ _ _ _ _ _ _ c.in_ok-progress.ensures
    (then_reads _ _ _ _ _ _ _ c.in_ok-remove.ensures
    (stopped_reads _ _ _ _ _ _ _ c.in_err-resources.ensures c.from_residual-in_err-resources.ensures.1))

pub returns-in_err-retry : goal.returns-in_err-retry
unfolding fourth
returns-in_err-retry c =
    then_reads _ _ _ _ _ _ _ c.in_ok-progress.ensures
    (then_reads _ _ _ _ _ _ _ c.in_ok-remove.ensures
    (then_reads _ _ _ _ _ _ _ c.in_ok-resources.ensures
    (stopped_reads _ _ _ _ _ _ _ c.in_err-retry.ensures c.from_residual-in_err-retry.ensures.1)))

pub returns-in_err-runnable : goal.returns-in_err-runnable
unfolding fourth
returns-in_err-runnable c =
    then_reads _ _ _ _ _ _ _ c.in_ok-progress.ensures
    (then_reads _ _ _ _ _ _ _ c.in_ok-remove.ensures
    (then_reads _ _ _ _ _ _ _ c.in_ok-resources.ensures
    (then_reads _ _ _ _ _ _ _ c.in_ok-retry.ensures
    (stopped_reads _ _ _ _ _ _ _ c.in_err-runnable.ensures c.from_residual-in_err-runnable.ensures.1))))

pub returns : goal.returns
unfolding fourth
returns c =
    then_reads _ _ _ _ _ _ _ c.in_ok-progress.ensures
    (then_reads _ _ _ _ _ _ _ c.in_ok-remove.ensures
    (then_reads _ _ _ _ _ _ _ c.in_ok-resources.ensures
    (then_reads _ _ _ _ _ _ _ c.in_ok-retry.ensures
    (then_reads _ _ _ _ _ _ _ c.in_ok-runnable.ensures
    (done_reads _ _ _ refl)))))
