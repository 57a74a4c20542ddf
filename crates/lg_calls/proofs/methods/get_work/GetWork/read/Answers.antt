use Rattle.std.proofs.Common.{rules}
use Rattle.lg_calls.proofs.ReadingLemmas.{then_reads, stopped_reads, done_reads}
use Rattle.lg_calls.proofs.methods.get_work.GetWork.read.Goals as goal

pub returns-in_err-worker : goal.returns-in_err-worker
returns-in_err-worker c =
    stopped_reads _ _ _ _ _ _ _ c.in_err-worker.ensures c.from_residual.ensures.1

pub returns-in_err-assistant : goal.returns-in_err-assistant
returns-in_err-assistant c =
    then_reads _ _ _ _ _ _ _ c.in_ok-worker.ensures (stopped_reads _ _ _ _ _ _ _ c.in_err-assistant.ensures c.from_residual-in_err-assistant.ensures.1)

pub returns-in_err-current_tasks : goal.returns-in_err-current_tasks
returns-in_err-current_tasks c =
    then_reads _ _ _ _ _ _ _ c.in_ok-worker.ensures (then_reads _ _ _ _ _ _ _ c.in_ok-assistant.ensures (stopped_reads _ _ _ _ _ _ _ c.in_err-current_tasks.ensures c.from_residual-in_err-current_tasks.ensures.1))

pub returns : goal.returns
returns c =
    then_reads _ _ _ _ _ _ _ c.in_ok-worker.ensures (then_reads _ _ _ _ _ _ _ c.in_ok-assistant.ensures (then_reads _ _ _ _ _ _ _ c.in_ok-current_tasks.ensures (done_reads _ _ _ (search rules))))
