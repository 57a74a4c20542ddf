use Rattle.std.proofs.Common.{ap, ◌∙◌}
use Rattle.lg_calls.specs.Ranges.{known_as}
use Rattle.lg_calls.proofs.RangeLemmas.{known_reads}
use Rattle.lg_calls.proofs.ReadingLemmas.{then_reads, stopped_reads}
use Rattle.lg_calls.proofs.ranges.count.Goals as goal

pub returns-in_err-asked-clause-read : goal.returns-in_err-asked-clause-read
returns-in_err-asked-clause-read c =
    stopped_reads _ _ _ _ _ _ _ c.in_err-asked.ensures c.from_residual.ensures.1

pub returns-clause-read : goal.returns-clause-read
returns-clause-read c =
    let answer = ap (known_as c.args.name.now) c.count_from.ensures.value in
    then_reads _ _ _ _ _ _ _ c.in_ok-asked.ensures (known_reads _ _ _ _ (c.known.ensures ∙ answer))
