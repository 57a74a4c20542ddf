use Rattle.std.proofs.Common.{rules}
use Rattle.lg_calls.proofs.ReadingLemmas.{then_reads, stopped_reads, done_reads}
use Rattle.lg_calls.proofs.methods.add_worker.AddWorker.read.Goals as goal

pub returns-in_err-worker : goal.returns-in_err-worker
returns-in_err-worker c =
    stopped_reads _ _ _ _ _ _ _ c.in_err-worker.ensures c.from_residual.ensures.1

pub returns-in_err-info : goal.returns-in_err-info
returns-in_err-info c =
    then_reads _ _ _ _ _ _ _ c.in_ok-worker.ensures (stopped_reads _ _ _ _ _ _ _ c.in_err-info.ensures c.from_residual-in_err-info.ensures.1)

pub returns : goal.returns
returns c =
    then_reads _ _ _ _ _ _ _ c.in_ok-worker.ensures (then_reads _ _ _ _ _ _ _ c.in_ok-info.ensures (done_reads _ _ _ (search rules)))
