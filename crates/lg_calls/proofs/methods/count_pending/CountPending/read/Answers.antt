use Rattle.std.proofs.Common.{rules}
use Rattle.lg_calls.proofs.ReadingLemmas.{then_reads, stopped_reads, done_reads}
use Rattle.lg_calls.proofs.methods.count_pending.CountPending.read.Goals as goal

pub returns-in_err-worker : goal.returns-in_err-worker
returns-in_err-worker c =
    stopped_reads _ _ _ _ _ _ _ c.in_err-worker.ensures c.from_residual.ensures.1

pub returns : goal.returns
returns c =
    then_reads _ _ _ _ _ _ _ c.in_ok-worker.ensures (done_reads _ _ _ (search rules))
