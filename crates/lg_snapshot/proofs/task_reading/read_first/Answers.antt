use Rattle.std.proofs.Common.{refl}
use Rattle.lg_snapshot.specs.TaskReading.{first}
use Rattle.lg_snapshot.proofs.ReadingLemmas.{then_reads, stopped_reads, done_reads}
use Rattle.lg_snapshot.proofs.task_reading.read_first.Goals as goal

pub returns-in_err-accepts_messages : goal.returns-in_err-accepts_messages
unfolding first
returns-in_err-accepts_messages c =
    stopped_reads _ _ _ _ _ _ _ c.in_err-accepts_messages.ensures c.from_residual.ensures.1

pub returns-in_err-added : goal.returns-in_err-added
unfolding first
returns-in_err-added c =
    then_reads _ _ _ _ _ _ _ c.in_ok-accepts_messages.ensures
    (stopped_reads _ _ _ _ _ _ _ c.in_err-added.ensures c.from_residual-in_err-added.ensures.1)

pub returns-in_err-batch : goal.returns-in_err-batch
unfolding first
returns-in_err-batch c =
    then_reads _ _ _ _ _ _ _ c.in_ok-accepts_messages.ensures
    (then_reads _ _ _ _ _ _ _ c.in_ok-added.ensures
    (stopped_reads _ _ _ _ _ _ _ c.in_err-batch.ensures c.from_residual-in_err-batch.ensures.1))

pub returns-in_err-batchable : goal.returns-in_err-batchable
unfolding first
returns-in_err-batchable c =
    then_reads _ _ _ _ _ _ _ c.in_ok-accepts_messages.ensures
    (then_reads _ _ _ _ _ _ _ c.in_ok-added.ensures
    (then_reads _ _ _ _ _ _ _ c.in_ok-batch.ensures
    (stopped_reads _ _ _ _ _ _ _ c.in_err-batchable.ensures c.from_residual-in_err-batchable.ensures.1)))

pub returns-in_err-deps : goal.returns-in_err-deps
unfolding first
returns-in_err-deps c =
    then_reads _ _ _ _ _ _ _ c.in_ok-accepts_messages.ensures
    (then_reads _ _ _ _ _ _ _ c.in_ok-added.ensures
    (then_reads _ _ _ _ _ _ _ c.in_ok-batch.ensures
    (then_reads _ _ _ _ _ _ _ c.in_ok-batchable.ensures
    (stopped_reads _ _ _ _ _ _ _ c.in_err-deps.ensures c.from_residual-in_err-deps.ensures.1))))

pub returns : goal.returns
unfolding first
returns c =
    then_reads _ _ _ _ _ _ _ c.in_ok-accepts_messages.ensures
    (then_reads _ _ _ _ _ _ _ c.in_ok-added.ensures
    (then_reads _ _ _ _ _ _ _ c.in_ok-batch.ensures
    (then_reads _ _ _ _ _ _ _ c.in_ok-batchable.ensures
    (then_reads _ _ _ _ _ _ _ c.in_ok-deps.ensures
    (done_reads _ _ _ refl)))))
