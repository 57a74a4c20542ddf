use Rattle.std.proofs.Common.{sym}
use Rattle.serde_json.specs.View.{view}
use Rattle.lg_calls.specs.Reading.{left_in}
use Rattle.lg_calls.proofs.LimitLemmas.{refused_limit, all_limits}
use Rattle.lg_calls.proofs.ReadingLemmas.{wanting_reads}
use Rattle.lg_calls.proofs.methods.update_resources.limits_of.Goals as goal

pub returns-in_err-put-in-Ok : goal.returns-in_err-put-in-Ok
returns-in_err-put-in-Ok c = wanting_reads _ _ _ _ c.from_residual.ensures.1

pub returns-in-Err : goal.returns-in-Err
returns-in-Err c =
    let so_far = rw c.in-Some.ensures.first at c.loop-name.invariant in
    rw (c.refused.ensures, c.from.ensures)
    (refused_limit c.loop-name.limits _ (view c.in-Some.value) (left_in c.first.new.self) _ _ _ so_far (sym c.in-Err.ensures))

pub returns : goal.returns
returns c =
    let left = c.in_default.ensures.none in
    all_limits _ _ c.loop-name.arguments _ c.loop-name.invariant left.0 left.1
