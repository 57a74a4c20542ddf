use Rattle.std.proofs.Common.{rules}
use Rattle.lg_calls.proofs.ReadingLemmas.{then_reads, stopped_reads, done_reads}
use Rattle.lg_calls.proofs.methods.add_task.read_described.Goals as goal

pub returns-in_err-family-clause-read : goal.returns-in_err-family-clause-read
returns-in_err-family-clause-read c =
    stopped_reads _ _ _ _ _ _ _ c.in_err-family.ensures c.from_residual.ensures.1

pub returns-in_err-module-clause-read : goal.returns-in_err-module-clause-read
returns-in_err-module-clause-read c =
    then_reads _ _ _ _ _ _ _ c.in_ok-family.ensures (stopped_reads _ _ _ _ _ _ _ c.in_err-module.ensures c.from_residual-in_err-module.ensures.1)

pub returns-in_err-params-clause-read : goal.returns-in_err-params-clause-read
returns-in_err-params-clause-read c =
    then_reads _ _ _ _ _ _ _ c.in_ok-family.ensures (then_reads _ _ _ _ _ _ _ c.in_ok-module.ensures (stopped_reads _ _ _ _ _ _ _ c.in_err-params.ensures.read c.from_residual-in_err-params.ensures.1))

pub returns-in_err-accepts_messages-clause-read : goal.returns-in_err-accepts_messages-clause-read
returns-in_err-accepts_messages-clause-read c =
    then_reads _ _ _ _ _ _ _ c.in_ok-family.ensures (then_reads _ _ _ _ _ _ _ c.in_ok-module.ensures (then_reads _ _ _ _ _ _ _ c.in_ok-params.ensures.read (stopped_reads _ _ _ _ _ _ _ c.in_err-accepts_messages.ensures c.from_residual-in_err-accepts_messages.ensures.1)))

pub returns-clause-read : goal.returns-clause-read
returns-clause-read c =
    then_reads _ _ _ _ _ _ _ c.in_ok-family.ensures (then_reads _ _ _ _ _ _ _ c.in_ok-module.ensures (then_reads _ _ _ _ _ _ _ c.in_ok-params.ensures.read (then_reads _ _ _ _ _ _ _ c.in_ok-accepts_messages.ensures (done_reads _ _ _ (search rules)))))
