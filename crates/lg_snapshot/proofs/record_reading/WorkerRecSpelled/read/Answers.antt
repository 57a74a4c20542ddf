use Rattle.lg_snapshot.proofs.ReadingLemmas.{object_reads, no_object}
use Rattle.lg_snapshot.proofs.record_reading.WorkerRecSpelled.read.Goals as goal

pub returns-in_err-entries : goal.returns-in_err-entries
returns-in_err-entries c = no_object _ _ _ _ c.in_err-entries.ensures c.from_residual.ensures.1

pub returns : goal.returns
returns c = object_reads _ _ _ _ _ c.in_ok-entries.ensures c.read_worker.ensures
