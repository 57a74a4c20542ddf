use Rattle.std.proofs.Common.{refl}
use Rattle.lg_snapshot.specs.RecordReadings.{batcher}
use Rattle.lg_snapshot.proofs.ReadingLemmas.{then_reads, stopped_reads, done_reads}
use Rattle.lg_snapshot.proofs.record_reading.read_batcher.Goals as goal

pub returns-in_err-family : goal.returns-in_err-family
unfolding batcher
returns-in_err-family c =
    stopped_reads _ _ _ _ _ _ _ c.in_err-family.ensures c.from_residual.ensures.1

pub returns-in_err-names : goal.returns-in_err-names
unfolding batcher
returns-in_err-names c =
    then_reads _ _ _ _ _ _ _ c.in_ok-family.ensures
    (stopped_reads _ _ _ _ _ _ _ c.in_err-names.ensures c.from_residual-in_err-names.ensures.1)

pub returns-in_err-size : goal.returns-in_err-size
unfolding batcher
returns-in_err-size c =
    then_reads _ _ _ _ _ _ _ c.in_ok-family.ensures
    (then_reads _ _ _ _ _ _ _ c.in_ok-names.ensures
    (stopped_reads _ _ _ _ _ _ _ c.in_err-size.ensures c.from_residual-in_err-size.ensures.1))

pub returns-in_err-worker : goal.returns-in_err-worker
unfolding batcher
returns-in_err-worker c =
    then_reads _ _ _ _ _ _ _ c.in_ok-family.ensures
    (then_reads _ _ _ _ _ _ _ c.in_ok-names.ensures
    (then_reads _ _ _ _ _ _ _ c.in_ok-size.ensures
    (stopped_reads _ _ _ _ _ _ _ c.in_err-worker.ensures c.from_residual-in_err-worker.ensures.1)))

pub returns : goal.returns
unfolding batcher
returns c =
    then_reads _ _ _ _ _ _ _ c.in_ok-family.ensures
    (then_reads _ _ _ _ _ _ _ c.in_ok-names.ensures
    (then_reads _ _ _ _ _ _ _ c.in_ok-size.ensures
    (then_reads _ _ _ _ _ _ _ c.in_ok-worker.ensures
    (done_reads _ _ _ refl))))
