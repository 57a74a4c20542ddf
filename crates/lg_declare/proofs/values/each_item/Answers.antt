use Rattle.lg_declare.proofs.DeclaringLemmas.{seen_passed}
use Rattle.lg_declare.proofs.LoopLemmas.{first_items, item_read, item_refused, items_read}
use Rattle.lg_declare.proofs.values.each_item.Goals as goal

pub loop-item-init : goal.loop-item-init
loop-item-init g c due answers = rw c.new-all.ensures.items (first_items _)

pub returns-in_err-read : goal.returns-in_err-read
returns-in_err-read g c due answers = seen_passed _ _ _ _ (item_refused due _ _ _ _ _ _ c.loop-item-test.true c.item-item.is (answers _ _ c.in_err-read.ensures) (c.loop-item.invariant due answers)) c.from_residual.ensures.1

pub loop-item-preserved : goal.loop-item-preserved
loop-item-preserved g c due answers = rw c.in_ok-push.ensures.items (item_read due _ _ _ _ _ _ c.loop-item-test.true c.item-item.is (answers _ _ c.in_ok-read.ensures) (c.loop-item.invariant due answers))

pub returns : goal.returns
returns g c due answers = items_read due _ _ _ _ c.loop-item-test.false (c.loop-item.invariant due answers)
