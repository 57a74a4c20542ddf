use Rattle.std.proofs.Common.{rules}
use Rattle.lg_calls.proofs.ReadingLemmas.{then_reads, stopped_reads, done_reads}
use Rattle.lg_calls.proofs.methods.worker_list.WorkerList.read.Goals as goal

pub returns-in_err-include_running : goal.returns-in_err-include_running
returns-in_err-include_running c =
    stopped_reads _ _ _ _ _ _ _ c.in_err-include_running.ensures c.from_residual.ensures.1

pub returns : goal.returns
returns c =
    then_reads _ _ _ _ _ _ _ c.in_ok-include_running.ensures (done_reads _ _ _ (search rules))
