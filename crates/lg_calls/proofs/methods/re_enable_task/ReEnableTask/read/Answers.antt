use Rattle.std.proofs.Common.{rules}
use Rattle.lg_calls.proofs.ReadingLemmas.{then_reads, stopped_reads, done_reads}
use Rattle.lg_calls.proofs.methods.re_enable_task.ReEnableTask.read.Goals as goal

pub returns-in_err-task_id : goal.returns-in_err-task_id
returns-in_err-task_id c =
    stopped_reads _ _ _ _ _ _ _ c.in_err-task_id.ensures c.from_residual.ensures.1

pub returns : goal.returns
returns c =
    then_reads _ _ _ _ _ _ _ c.in_ok-task_id.ensures (done_reads _ _ _ (search rules))
