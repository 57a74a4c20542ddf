use Rattle.std.proofs.Common.{rules, refl}
use Rattle.lg_calls.proofs.ReadingLemmas.{then_reads, stopped_reads, refused_reads, done_reads, in_range_reads, out_of_range_reads}
use Rattle.lg_calls.proofs.methods.update_resource.UpdateResource.read.Goals as goal

pub returns-in_err-resource-clause-read : goal.returns-in_err-resource-clause-read
returns-in_err-resource-clause-read c =
    stopped_reads _ _ _ _ _ _ _ c.in_err-resource.ensures c.from_residual.ensures.1

pub returns-in_err-amount-clause-read : goal.returns-in_err-amount-clause-read
returns-in_err-amount-clause-read c =
    then_reads _ _ _ _ _ _ _ c.in_ok-resource.ensures (stopped_reads _ _ _ _ _ _ _ c.in_err-amount.ensures c.from_residual-in_err-amount.ensures.1)

pub returns-then-not-is_amount-clause-read : goal.returns-then-not-is_amount-clause-read
returns-then-not-is_amount-clause-read c = let h = c.if-not-is_amount.true in
    then_reads _ _ _ _ _ _ _ c.in_ok-resource.ensures (then_reads _ _ _ _ _ _ _ c.in_ok-amount.ensures (refused_reads _ _ _ _ _ _ (out_of_range_reads _ _ _ _ _ (search rules) c.out_of_range.ensures)))

pub returns-clause-read : goal.returns-clause-read
returns-clause-read c = let h = c.if-not-is_amount.false in
    then_reads _ _ _ _ _ _ _ c.in_ok-resource.ensures (then_reads _ _ _ _ _ _ _ c.in_ok-amount.ensures (then_reads _ _ _ _ _ _ _ (in_range_reads _ _ c.in_ok-amount.amount _ _ (search rules) refl) (done_reads _ _ _ (search rules))))
