use Rattle.std.proofs.Common.{rules}
use Rattle.lg_calls.proofs.ReadingLemmas.{then_reads, stopped_reads, done_reads}
use Rattle.lg_calls.proofs.methods.set_task_progress_percentage.SetTaskProgressPercentage.read.Goals as goal

pub returns-in_err-task_id : goal.returns-in_err-task_id
returns-in_err-task_id c =
    stopped_reads _ _ _ _ _ _ _ c.in_err-task_id.ensures c.from_residual.ensures.1

pub returns-in_err-progress_percentage : goal.returns-in_err-progress_percentage
returns-in_err-progress_percentage c =
    then_reads _ _ _ _ _ _ _ c.in_ok-task_id.ensures (stopped_reads _ _ _ _ _ _ _ c.in_err-progress_percentage.ensures c.from_residual-in_err-progress_percentage.ensures.1)

pub returns : goal.returns
returns c =
    then_reads _ _ _ _ _ _ _ c.in_ok-task_id.ensures (then_reads _ _ _ _ _ _ _ c.in_ok-progress_percentage.ensures (done_reads _ _ _ (search rules)))
