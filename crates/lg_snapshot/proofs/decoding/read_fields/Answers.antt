use Rattle.lg_snapshot.specs.StateReading.{state}
use Rattle.lg_snapshot.proofs.DecodingLemmas.{with_settings}
use Rattle.lg_snapshot.proofs.ReadingLemmas.{then_reads, stopped_reads, done_reads, no_memory_reads}
use Rattle.lg_snapshot.proofs.decoding.read_fields.Goals as goal

pub returns-in_err-batchers-clause-read : goal.returns-in_err-batchers-clause-read
unfolding state
returns-in_err-batchers-clause-read c =
    stopped_reads _ _ _ _ _ _ _ c.in_err-batchers.ensures c.from_residual.ensures.1

pub returns-in_err-limits-clause-read : goal.returns-in_err-limits-clause-read
unfolding state
returns-in_err-limits-clause-read c =
    then_reads _ _ _ _ _ _ _ c.in_ok-batchers.ensures
    (stopped_reads _ _ _ _ _ _ _ c.in_err-limits.ensures c.from_residual-in_err-limits.ensures.1)

pub returns-in_err-moment-clause-read : goal.returns-in_err-moment-clause-read
unfolding state
returns-in_err-moment-clause-read c =
    then_reads _ _ _ _ _ _ _ c.in_ok-batchers.ensures
    (then_reads _ _ _ _ _ _ _ c.in_ok-limits.ensures
    (stopped_reads _ _ _ _ _ _ _ c.in_err-moment.ensures c.from_residual-in_err-moment.ensures.1))

pub returns-in_err-next-clause-read : goal.returns-in_err-next-clause-read
unfolding state
returns-in_err-next-clause-read c =
    then_reads _ _ _ _ _ _ _ c.in_ok-batchers.ensures
    (then_reads _ _ _ _ _ _ _ c.in_ok-limits.ensures
    (then_reads _ _ _ _ _ _ _ c.in_ok-moment.ensures
    (stopped_reads _ _ _ _ _ _ _ c.in_err-next.ensures c.from_residual-in_err-next.ensures.1)))

pub returns-in_err-paused-clause-read : goal.returns-in_err-paused-clause-read
unfolding state
returns-in_err-paused-clause-read c =
    then_reads _ _ _ _ _ _ _ c.in_ok-batchers.ensures
    (then_reads _ _ _ _ _ _ _ c.in_ok-limits.ensures
    (then_reads _ _ _ _ _ _ _ c.in_ok-moment.ensures
    (then_reads _ _ _ _ _ _ _ c.in_ok-next.ensures
    (stopped_reads _ _ _ _ _ _ _ c.in_err-paused.ensures c.from_residual-in_err-paused.ensures.1))))

pub returns-in_err-tasks-clause-read : goal.returns-in_err-tasks-clause-read
unfolding state
returns-in_err-tasks-clause-read c =
    then_reads _ _ _ _ _ _ _ c.in_ok-batchers.ensures
    (then_reads _ _ _ _ _ _ _ c.in_ok-limits.ensures
    (then_reads _ _ _ _ _ _ _ c.in_ok-moment.ensures
    (then_reads _ _ _ _ _ _ _ c.in_ok-next.ensures
    (then_reads _ _ _ _ _ _ _ c.in_ok-paused.ensures
    (stopped_reads _ _ _ _ _ _ _ c.in_err-tasks.ensures c.from_residual-in_err-tasks.ensures.1)))))

pub returns-in_err-_version-clause-read : goal.returns-in_err-_version-clause-read
unfolding state
returns-in_err-_version-clause-read c =
    then_reads _ _ _ _ _ _ _ c.in_ok-batchers.ensures
    (then_reads _ _ _ _ _ _ _ c.in_ok-limits.ensures
    (then_reads _ _ _ _ _ _ _ c.in_ok-moment.ensures
    (then_reads _ _ _ _ _ _ _ c.in_ok-next.ensures
    (then_reads _ _ _ _ _ _ _ c.in_ok-paused.ensures
    (then_reads _ _ _ _ _ _ _ c.in_ok-tasks.ensures
    (stopped_reads _ _ _ _ _ _ _ c.in_err-_version.ensures c.from_residual-in_err-_version.ensures.1))))))

pub returns-in_err-workers-clause-read : goal.returns-in_err-workers-clause-read
unfolding state
returns-in_err-workers-clause-read c =
    then_reads _ _ _ _ _ _ _ c.in_ok-batchers.ensures
    (then_reads _ _ _ _ _ _ _ c.in_ok-limits.ensures
    (then_reads _ _ _ _ _ _ _ c.in_ok-moment.ensures
    (then_reads _ _ _ _ _ _ _ c.in_ok-next.ensures
    (then_reads _ _ _ _ _ _ _ c.in_ok-paused.ensures
    (then_reads _ _ _ _ _ _ _ c.in_ok-tasks.ensures
    (then_reads _ _ _ _ _ _ _ c.in_ok-_version.ensures
    (stopped_reads _ _ _ _ _ _ _ c.in_err-workers.ensures c.from_residual-in_err-workers.ensures.1)))))))

pub returns-in_err-settings-clause-read : goal.returns-in_err-settings-clause-read
returns-in_err-settings-clause-read c = no_memory_reads _ _ _ _ c.from_residual-in_err-settings.ensures.1

pub returns-clause-read : goal.returns-clause-read
unfolding state
returns-clause-read c =
    then_reads _ _ _ _ _ _ _ c.in_ok-batchers.ensures
    (then_reads _ _ _ _ _ _ _ c.in_ok-limits.ensures
    (then_reads _ _ _ _ _ _ _ c.in_ok-moment.ensures
    (then_reads _ _ _ _ _ _ _ c.in_ok-next.ensures
    (then_reads _ _ _ _ _ _ _ c.in_ok-paused.ensures
    (then_reads _ _ _ _ _ _ _ c.in_ok-tasks.ensures
    (then_reads _ _ _ _ _ _ _ c.in_ok-_version.ensures
    (then_reads _ _ _ _ _ _ _ c.in_ok-workers.ensures
    (done_reads _ _ _ (with_settings _ _ c.in_ok-settings.ensures)))))))))
