use Rattle.lg_declare.proofs.DeclaringLemmas.{seen_passed}
use Rattle.lg_declare.proofs.LoopLemmas.{choice_read, choice_refused, choices_read}
use Rattle.std.proofs.Common.{sym}
use Rattle.lg_declare.proofs.parameters.choices_in.Goals as goal

pub returns-in_err-text : goal.returns-in_err-text
returns-in_err-text c = seen_passed _ _ _ _ (choice_refused _ _ _ _ _ _ c.loop-item-test.true c.item-item.is (rw (sym c.deref.ensures.value) c.in_err-text.ensures) c.loop-item.invariant) c.from_residual.ensures.1

pub loop-item-preserved : goal.loop-item-preserved
loop-item-preserved c = choice_read _ _ _ _ _ _ _ c.loop-item-test.true c.item-item.is (rw (sym c.deref.ensures.value) c.in_ok-text.ensures) c.in_ok-push.ensures.items c.loop-item.invariant

pub returns : goal.returns
returns c = choices_read _ _ _ _ c.loop-item-test.false c.loop-item.invariant
