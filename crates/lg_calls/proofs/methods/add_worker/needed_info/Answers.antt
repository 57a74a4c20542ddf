use Rattle.lg_calls.proofs.ReadingLemmas.{then_reads, stopped_reads, present_reads}
use Rattle.lg_calls.proofs.methods.add_worker.needed_info.Goals as goal

pub returns-in_err-info : goal.returns-in_err-info
returns-in_err-info c =
    stopped_reads _ _ _ _ _ _ _ c.in_err-info.ensures c.from_residual.ensures.1

pub returns : goal.returns
returns c =
    then_reads _ _ _ _ _ _ _ c.in_ok-info.ensures (present_reads _ _ _ _ c.present.ensures)
