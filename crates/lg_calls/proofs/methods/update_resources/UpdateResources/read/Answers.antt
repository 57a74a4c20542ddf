use Rattle.std.proofs.Common.{rules}
use Rattle.lg_calls.proofs.ReadingLemmas.{then_reads, stopped_reads, done_reads}
use Rattle.lg_calls.proofs.methods.update_resources.UpdateResources.read.Goals as goal

pub returns-in_err-limits : goal.returns-in_err-limits
returns-in_err-limits c =
    stopped_reads _ _ _ _ _ _ _ c.in_err-limits.ensures c.from_residual.ensures.1

pub returns : goal.returns
returns c =
    then_reads _ _ _ _ _ _ _ c.in_ok-limits.ensures (done_reads _ _ _ (search rules))
