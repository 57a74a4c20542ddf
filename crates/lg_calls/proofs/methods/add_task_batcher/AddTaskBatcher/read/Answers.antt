use Rattle.std.proofs.Common.{rules}
use Rattle.lg_calls.proofs.ReadingLemmas.{then_reads, stopped_reads, done_reads}
use Rattle.lg_calls.proofs.methods.add_task_batcher.AddTaskBatcher.read.Goals as goal

pub returns-in_err-worker-clause-read : goal.returns-in_err-worker-clause-read
returns-in_err-worker-clause-read c =
    stopped_reads _ _ _ _ _ _ _ c.in_err-worker.ensures c.from_residual.ensures.1

pub returns-in_err-family-clause-read : goal.returns-in_err-family-clause-read
returns-in_err-family-clause-read c =
    then_reads _ _ _ _ _ _ _ c.in_ok-worker.ensures (stopped_reads _ _ _ _ _ _ _ c.in_err-family.ensures c.from_residual-in_err-family.ensures.1)

pub returns-in_err-batched_args-clause-read : goal.returns-in_err-batched_args-clause-read
returns-in_err-batched_args-clause-read c =
    then_reads _ _ _ _ _ _ _ c.in_ok-worker.ensures (then_reads _ _ _ _ _ _ _ c.in_ok-family.ensures (stopped_reads _ _ _ _ _ _ _ c.in_err-batched_args.ensures c.from_residual-in_err-batched_args.ensures.1))

pub returns-in_err-max_batch_size-clause-read : goal.returns-in_err-max_batch_size-clause-read
returns-in_err-max_batch_size-clause-read c =
    then_reads _ _ _ _ _ _ _ c.in_ok-worker.ensures (then_reads _ _ _ _ _ _ _ c.in_ok-family.ensures (then_reads _ _ _ _ _ _ _ c.in_ok-batched_args.ensures (stopped_reads _ _ _ _ _ _ _ c.in_err-max_batch_size.ensures.read c.from_residual-in_err-max_batch_size.ensures.1)))

pub returns-clause-read : goal.returns-clause-read
returns-clause-read c =
    then_reads _ _ _ _ _ _ _ c.in_ok-worker.ensures (then_reads _ _ _ _ _ _ _ c.in_ok-family.ensures (then_reads _ _ _ _ _ _ _ c.in_ok-batched_args.ensures (then_reads _ _ _ _ _ _ _ c.in_ok-max_batch_size.ensures.read (done_reads _ _ _ (search rules)))))
