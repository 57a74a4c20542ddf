use Rattle.std.proofs.Common.{rules}
use Rattle.lg_calls.proofs.ReadingLemmas.{then_reads, stopped_reads, done_reads}
use Rattle.lg_calls.proofs.methods.add_task.read_terms.Goals as goal

pub returns-in_err-assistant-clause-read : goal.returns-in_err-assistant-clause-read
returns-in_err-assistant-clause-read c =
    stopped_reads _ _ _ _ _ _ _ c.in_err-assistant.ensures c.from_residual.ensures.1

pub returns-in_err-tracking_url-clause-read : goal.returns-in_err-tracking_url-clause-read
returns-in_err-tracking_url-clause-read c =
    then_reads _ _ _ _ _ _ _ c.in_ok-assistant.ensures (stopped_reads _ _ _ _ _ _ _ c.in_err-tracking_url.ensures c.from_residual-in_err-tracking_url.ensures.1)

pub returns-in_err-batchable-clause-read : goal.returns-in_err-batchable-clause-read
returns-in_err-batchable-clause-read c =
    then_reads _ _ _ _ _ _ _ c.in_ok-assistant.ensures (then_reads _ _ _ _ _ _ _ c.in_ok-tracking_url.ensures (stopped_reads _ _ _ _ _ _ _ c.in_err-batchable.ensures c.from_residual-in_err-batchable.ensures.1))

pub returns-in_err-batch_id-clause-read : goal.returns-in_err-batch_id-clause-read
returns-in_err-batch_id-clause-read c =
    then_reads _ _ _ _ _ _ _ c.in_ok-assistant.ensures (then_reads _ _ _ _ _ _ _ c.in_ok-tracking_url.ensures (then_reads _ _ _ _ _ _ _ c.in_ok-batchable.ensures (stopped_reads _ _ _ _ _ _ _ c.in_err-batch_id.ensures c.from_residual-in_err-batch_id.ensures.1)))

pub returns-in_err-policy-clause-read : goal.returns-in_err-policy-clause-read
returns-in_err-policy-clause-read c =
    then_reads _ _ _ _ _ _ _ c.in_ok-assistant.ensures (then_reads _ _ _ _ _ _ _ c.in_ok-tracking_url.ensures (then_reads _ _ _ _ _ _ _ c.in_ok-batchable.ensures (then_reads _ _ _ _ _ _ _ c.in_ok-batch_id.ensures (stopped_reads _ _ _ _ _ _ _ c.in_err-policy.ensures.read c.from_residual-in_err-policy.ensures.1))))

pub returns-clause-read : goal.returns-clause-read
returns-clause-read c =
    then_reads _ _ _ _ _ _ _ c.in_ok-assistant.ensures (then_reads _ _ _ _ _ _ _ c.in_ok-tracking_url.ensures (then_reads _ _ _ _ _ _ _ c.in_ok-batchable.ensures (then_reads _ _ _ _ _ _ _ c.in_ok-batch_id.ensures (then_reads _ _ _ _ _ _ _ c.in_ok-policy.ensures.read (done_reads _ _ _ (search rules))))))
