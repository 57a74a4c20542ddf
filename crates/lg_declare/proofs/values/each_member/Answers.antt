use Rattle.lg_declare.proofs.DeclaringLemmas.{seen_passed}
use Rattle.lg_declare.proofs.LoopLemmas.{first_items, member_read, member_refused, members_read}
use Rattle.lg_declare.proofs.values.each_member.Goals as goal

pub loop-key-init : goal.loop-key-init
loop-key-init g c due answers = rw (c.new-all.ensures.items, c.into_iter-key-iterator.ensures.into_iter_gives.0) (first_items _)

pub returns-in_err-read : goal.returns-in_err-read
returns-in_err-read g c due answers = seen_passed _ _ _ _ (member_refused due _ _ _ _ _ c.next.new.self _ _ c.in-Some.ensures.steps c.as_str.ensures.value (answers _ _ _ c.in_err-read.ensures) (c.loop-key.invariant due answers)) c.from_residual.ensures.1

pub loop-key-preserved : goal.loop-key-preserved
loop-key-preserved g c due answers = rw c.in_ok-push.ensures.items (member_read due _ _ _ _ _ c.next.new.self _ _ c.in-Some.ensures.steps c.as_str.ensures.value (answers _ _ _ c.in_ok-read.ensures) (c.loop-key.invariant due answers))

pub returns : goal.returns
returns g c due answers = members_read due _ _ _ c.in-None.ensures.steps.0 (c.loop-key.invariant due answers)
