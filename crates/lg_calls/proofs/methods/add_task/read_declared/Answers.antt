use Rattle.std.proofs.Common.{rules, ◌∙◌, ap}
use Rattle.lg_calls.specs.Ranges.{known_as}
use Rattle.std.specs.Prelude.{codes}
use Rattle.lg_calls.proofs.RangeLemmas.{known_reads}
use Rattle.lg_calls.proofs.ReadingLemmas.{then_reads, stopped_reads, done_reads}
use Rattle.lg_calls.proofs.methods.add_task.read_declared.Goals as goal

pub returns-in_err-worker : goal.returns-in_err-worker
returns-in_err-worker c =
    stopped_reads _ _ _ _ _ _ _ c.in_err-worker.ensures c.from_residual.ensures.1

pub returns-in_err-task_id : goal.returns-in_err-task_id
returns-in_err-task_id c =
    then_reads _ _ _ _ _ _ _ c.in_ok-worker.ensures (stopped_reads _ _ _ _ _ _ _ c.in_err-task_id.ensures c.from_residual-in_err-task_id.ensures.1)

pub returns-in_err-word : goal.returns-in_err-word
returns-in_err-word c =
    then_reads _ _ _ _ _ _ _ c.in_ok-worker.ensures (then_reads _ _ _ _ _ _ _ c.in_ok-task_id.ensures (stopped_reads _ _ _ _ _ _ _ c.in_err-word.ensures c.from_residual-in_err-word.ensures.1))

pub returns-in_err-status : goal.returns-in_err-status
returns-in_err-status c =
    then_reads _ _ _ _ _ _ _ c.in_ok-worker.ensures (then_reads _ _ _ _ _ _ _ c.in_ok-task_id.ensures (then_reads _ _ _ _ _ _ _ c.in_ok-word.ensures (stopped_reads _ _ _ _ _ _ _ (known_reads _ _ _ _ (c.in_err-status.ensures ∙ ap (known_as (codes "status")) c.reported.ensures)) c.from_residual-in_err-status.ensures.1)))

pub returns-in_err-runnable : goal.returns-in_err-runnable
returns-in_err-runnable c =
    then_reads _ _ _ _ _ _ _ c.in_ok-worker.ensures (then_reads _ _ _ _ _ _ _ c.in_ok-task_id.ensures (then_reads _ _ _ _ _ _ _ c.in_ok-word.ensures (then_reads _ _ _ _ _ _ _ (known_reads _ _ _ _ (c.in_ok-status.ensures ∙ ap (known_as (codes "status")) c.reported.ensures)) (stopped_reads _ _ _ _ _ _ _ c.in_err-runnable.ensures c.from_residual-in_err-runnable.ensures.1))))

pub returns : goal.returns
returns c =
    then_reads _ _ _ _ _ _ _ c.in_ok-worker.ensures (then_reads _ _ _ _ _ _ _ c.in_ok-task_id.ensures (then_reads _ _ _ _ _ _ _ c.in_ok-word.ensures (then_reads _ _ _ _ _ _ _ (known_reads _ _ _ _ (c.in_ok-status.ensures ∙ ap (known_as (codes "status")) c.reported.ensures)) (then_reads _ _ _ _ _ _ _ c.in_ok-runnable.ensures (done_reads _ _ _ (search rules))))))
