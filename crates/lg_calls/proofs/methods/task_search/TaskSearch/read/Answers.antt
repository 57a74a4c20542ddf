use Rattle.std.proofs.Common.{rules}
use Rattle.lg_calls.proofs.ReadingLemmas.{then_reads, stopped_reads, done_reads}
use Rattle.lg_calls.proofs.methods.task_search.TaskSearch.read.Goals as goal

pub returns-in_err-task_str : goal.returns-in_err-task_str
returns-in_err-task_str c =
    stopped_reads _ _ _ _ _ _ _ c.in_err-task_str.ensures c.from_residual.ensures.1

pub returns : goal.returns
returns c =
    then_reads _ _ _ _ _ _ _ c.in_ok-task_str.ensures (done_reads _ _ _ (search rules))
