use Rattle.lg_declare.proofs.DeclaringLemmas.{passed}
use Rattle.lg_declare.proofs.LoopLemmas.{amount_read, amount_refused, amounts_read}
use Rattle.std.proofs.Common.{◌∙◌}
use Rattle.lg_declare.proofs.terms.amounts_in.Goals as goal

pub returns-in_err-amount : goal.returns-in_err-amount
returns-in_err-amount c = passed _ _ _ (amount_refused _ _ _ _ _ c.next.new.self _ c.in-Some.ensures.steps c.in_err-amount.ensures c.loop-name.invariant) c.from_residual.ensures.1

pub loop-name-preserved : goal.loop-name-preserved
loop-name-preserved c = amount_read _ _ _ _ _ _ c.next.new.self _ _ c.in-Some.ensures.steps (c.in_ok-name.ensures ∙ c.as_str.ensures.value) c.in_ok-amount.ensures c.in_ok-put.ensures.ok c.loop-name.invariant

pub returns : goal.returns
returns c = amounts_read _ _ _ c.in-None.ensures.steps.0 c.loop-name.invariant
