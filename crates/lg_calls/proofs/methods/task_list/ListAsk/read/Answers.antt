use Rattle.std.proofs.Common.{rules, ◌∙◌, ap}
use Rattle.std.specs.Prelude.{codes}
use Rattle.lg_calls.specs.Ranges.{known_as}
use Rattle.lg_calls.proofs.RangeLemmas.{known_reads}
use Rattle.lg_calls.proofs.ReadingLemmas.{then_reads, stopped_reads, done_reads}
use Rattle.lg_calls.proofs.methods.task_list.ListAsk.read.Goals as goal

pub returns-in_err-word-clause-read : goal.returns-in_err-word-clause-read
returns-in_err-word-clause-read c =
    stopped_reads _ _ _ _ _ _ _ c.in_err-word.ensures c.from_residual.ensures.1

pub returns-in_err-status-clause-read : goal.returns-in_err-status-clause-read
returns-in_err-status-clause-read c =
    then_reads _ _ _ _ _ _ _ c.in_ok-word.ensures (stopped_reads _ _ _ _ _ _ _ (known_reads _ _ _ _ (c.in_err-status.ensures ∙ ap (known_as (codes "status")) c.listed_status.ensures)) c.from_residual-in_err-status.ensures.1)

pub returns-in_err-upstream-clause-read : goal.returns-in_err-upstream-clause-read
returns-in_err-upstream-clause-read c =
    then_reads _ _ _ _ _ _ _ c.in_ok-word.ensures (then_reads _ _ _ _ _ _ _ (known_reads _ _ _ _ (c.in_ok-status.ensures ∙ ap (known_as (codes "status")) c.listed_status.ensures)) (stopped_reads _ _ _ _ _ _ _ c.in_err-upstream.ensures c.from_residual-in_err-upstream.ensures.1))

pub returns-in_err-limit-clause-read : goal.returns-in_err-limit-clause-read
returns-in_err-limit-clause-read c =
    then_reads _ _ _ _ _ _ _ c.in_ok-word.ensures (then_reads _ _ _ _ _ _ _ (known_reads _ _ _ _ (c.in_ok-status.ensures ∙ ap (known_as (codes "status")) c.listed_status.ensures)) (then_reads _ _ _ _ _ _ _ c.in_ok-upstream.ensures (stopped_reads _ _ _ _ _ _ _ c.in_err-limit.ensures c.from_residual-in_err-limit.ensures.1)))

pub returns-in_err-search-clause-read : goal.returns-in_err-search-clause-read
returns-in_err-search-clause-read c =
    then_reads _ _ _ _ _ _ _ c.in_ok-word.ensures (then_reads _ _ _ _ _ _ _ (known_reads _ _ _ _ (c.in_ok-status.ensures ∙ ap (known_as (codes "status")) c.listed_status.ensures)) (then_reads _ _ _ _ _ _ _ c.in_ok-upstream.ensures (then_reads _ _ _ _ _ _ _ c.in_ok-limit.ensures (stopped_reads _ _ _ _ _ _ _ c.in_err-search.ensures c.from_residual-in_err-search.ensures.1))))

pub returns-in_err-shown-clause-read : goal.returns-in_err-shown-clause-read
returns-in_err-shown-clause-read c =
    then_reads _ _ _ _ _ _ _ c.in_ok-word.ensures (then_reads _ _ _ _ _ _ _ (known_reads _ _ _ _ (c.in_ok-status.ensures ∙ ap (known_as (codes "status")) c.listed_status.ensures)) (then_reads _ _ _ _ _ _ _ c.in_ok-upstream.ensures (then_reads _ _ _ _ _ _ _ c.in_ok-limit.ensures (then_reads _ _ _ _ _ _ _ c.in_ok-search.ensures (stopped_reads _ _ _ _ _ _ _ c.in_err-shown.ensures.read c.from_residual-in_err-shown.ensures.1)))))

pub returns-clause-read : goal.returns-clause-read
returns-clause-read c =
    then_reads _ _ _ _ _ _ _ c.in_ok-word.ensures (then_reads _ _ _ _ _ _ _ (known_reads _ _ _ _ (c.in_ok-status.ensures ∙ ap (known_as (codes "status")) c.listed_status.ensures)) (then_reads _ _ _ _ _ _ _ c.in_ok-upstream.ensures (then_reads _ _ _ _ _ _ _ c.in_ok-limit.ensures (then_reads _ _ _ _ _ _ _ c.in_ok-search.ensures (then_reads _ _ _ _ _ _ _ c.in_ok-shown.ensures.read (done_reads _ _ _ (search rules)))))))
