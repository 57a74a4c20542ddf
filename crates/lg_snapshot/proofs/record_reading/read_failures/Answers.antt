use Rattle.std.proofs.Common.{refl}
use Rattle.lg_snapshot.specs.RecordReadings.{failures}
use Rattle.lg_snapshot.proofs.ReadingLemmas.{then_reads, stopped_reads, done_reads}
use Rattle.lg_snapshot.proofs.record_reading.read_failures.Goals as goal

pub returns-in_err-first : goal.returns-in_err-first
unfolding failures
returns-in_err-first c =
    stopped_reads _ _ _ _ _ _ _ c.in_err-first.ensures c.from_residual.ensures.1

pub returns-in_err-moments : goal.returns-in_err-moments
unfolding failures
returns-in_err-moments c =
    then_reads _ _ _ _ _ _ _ c.in_ok-first.ensures
    (stopped_reads _ _ _ _ _ _ _ c.in_err-moments.ensures c.from_residual-in_err-moments.ensures.1)

pub returns : goal.returns
unfolding failures
returns c =
    then_reads _ _ _ _ _ _ _ c.in_ok-first.ensures
    (then_reads _ _ _ _ _ _ _ c.in_ok-moments.ensures
    (done_reads _ _ _ refl))
