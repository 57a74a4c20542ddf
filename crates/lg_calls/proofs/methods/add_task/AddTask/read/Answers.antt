use Rattle.lg_calls.proofs.ReadingLemmas.{then_reads, stopped_reads, done_reads}
use Rattle.lg_calls.proofs.methods.add_task.AddTask.read.Goals as goal

pub returns-in_err-declared-clause-read : goal.returns-in_err-declared-clause-read
returns-in_err-declared-clause-read c =
    stopped_reads _ _ _ _ _ _ _ c.in_err-declared.ensures c.from_residual.ensures.1

pub returns-in_err-demands-clause-read : goal.returns-in_err-demands-clause-read
returns-in_err-demands-clause-read c =
    then_reads _ _ _ _ _ _ _ c.in_ok-declared.ensures (stopped_reads _ _ _ _ _ _ _ c.in_err-demands.ensures c.from_residual-in_err-demands.ensures.1)

pub returns-in_err-described-clause-read : goal.returns-in_err-described-clause-read
returns-in_err-described-clause-read c =
    then_reads _ _ _ _ _ _ _ c.in_ok-declared.ensures (then_reads _ _ _ _ _ _ _ c.in_ok-demands.ensures (stopped_reads _ _ _ _ _ _ _ c.in_err-described.ensures.read c.from_residual-in_err-described.ensures.1))

pub returns-in_err-terms-clause-read : goal.returns-in_err-terms-clause-read
returns-in_err-terms-clause-read c =
    then_reads _ _ _ _ _ _ _ c.in_ok-declared.ensures (then_reads _ _ _ _ _ _ _ c.in_ok-demands.ensures (then_reads _ _ _ _ _ _ _ c.in_ok-described.ensures.read (stopped_reads _ _ _ _ _ _ _ c.in_err-terms.ensures.read c.from_residual-in_err-terms.ensures.1)))

pub returns-clause-read : goal.returns-clause-read
returns-clause-read c =
    then_reads _ _ _ _ _ _ _ c.in_ok-declared.ensures (then_reads _ _ _ _ _ _ _ c.in_ok-demands.ensures (then_reads _ _ _ _ _ _ _ c.in_ok-described.ensures.read (then_reads _ _ _ _ _ _ _ c.in_ok-terms.ensures.read (done_reads _ _ _ c.put_together.ensures))))
