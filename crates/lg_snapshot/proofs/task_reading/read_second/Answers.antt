use Rattle.std.proofs.Common.{refl}
use Rattle.lg_snapshot.specs.TaskReading.{second}
use Rattle.lg_snapshot.proofs.ReadingLemmas.{then_reads, stopped_reads, done_reads}
use Rattle.lg_snapshot.proofs.task_reading.read_second.Goals as goal

pub returns-in_err-disabled_at : goal.returns-in_err-disabled_at
unfolding second
returns-in_err-disabled_at c =
    stopped_reads _ _ _ _ _ _ _ c.in_err-disabled_at.ensures c.from_residual.ensures.1

pub returns-in_err-expl : goal.returns-in_err-expl
unfolding second
returns-in_err-expl c =
    then_reads _ _ _ _ _ _ _ c.in_ok-disabled_at.ensures
    (stopped_reads _ _ _ _ _ _ _ c.in_err-expl.ensures c.from_residual-in_err-expl.ensures.1)

pub returns-in_err-failures : goal.returns-in_err-failures
unfolding second
returns-in_err-failures c =
    then_reads _ _ _ _ _ _ _ c.in_ok-disabled_at.ensures
    (then_reads _ _ _ _ _ _ _ c.in_ok-expl.ensures
    (stopped_reads _ _ _ _ _ _ _ c.in_err-failures.ensures c.from_residual-in_err-failures.ensures.1))

pub returns-in_err-family : goal.returns-in_err-family
unfolding second
returns-in_err-family c =
    then_reads _ _ _ _ _ _ _ c.in_ok-disabled_at.ensures
    (then_reads _ _ _ _ _ _ _ c.in_ok-expl.ensures
    (then_reads _ _ _ _ _ _ _ c.in_ok-failures.ensures
    (stopped_reads _ _ _ _ _ _ _ c.in_err-family.ensures c.from_residual-in_err-family.ensures.1)))

pub returns-in_err-id : goal.returns-in_err-id
unfolding second
returns-in_err-id c =
    then_reads _ _ _ _ _ _ _ c.in_ok-disabled_at.ensures
    (then_reads _ _ _ _ _ _ _ c.in_ok-expl.ensures
    (then_reads _ _ _ _ _ _ _ c.in_ok-failures.ensures
    (then_reads _ _ _ _ _ _ _ c.in_ok-family.ensures
    (stopped_reads _ _ _ _ _ _ _ c.in_err-id.ensures c.from_residual-in_err-id.ensures.1))))

pub returns : goal.returns
unfolding second
returns c =
    then_reads _ _ _ _ _ _ _ c.in_ok-disabled_at.ensures
    (then_reads _ _ _ _ _ _ _ c.in_ok-expl.ensures
    (then_reads _ _ _ _ _ _ _ c.in_ok-failures.ensures
    (then_reads _ _ _ _ _ _ _ c.in_ok-family.ensures
    (then_reads _ _ _ _ _ _ _ c.in_ok-id.ensures
    (done_reads _ _ _ refl)))))
