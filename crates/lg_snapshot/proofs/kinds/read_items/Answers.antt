use Rattle.std.proofs.Common.{Some, sym, ap, ◌∙◌}
use Rattle.std.proofs.lemmas.Iterator.Adapters.{YieldsList-from_vec}
use Rattle.std.proofs.lemmas.Iterator.Consumers.{YieldsList-turn}
use Rattle.lg_snapshot.proofs.ItemLemmas.{item_more, item_refused}
use Rattle.lg_snapshot.proofs.kinds.read_items.Goals as goal

pub returns-in_err-read : goal.returns-in_err-read
returns-in_err-read g c =
    let gives = c.into_iter-item-iterator.ensures.into_iter_gives in
    let turn = YieldsList-turn (YieldsList-from_vec c.args.items.items (cc) (cc)) c.loop-item.yielded c.loop-item.item-iterator c.loop-item.yielded_by c.next.result c.next.new.self c.in-Some.item c.in-Some.is c.next.ensures.steps in
    item_refused g.T.Spelled.kind c.args.items.items _ _ _ _ c.in_err-read.ensures turn.0 turn.1 c.from_residual.ensures.1

pub loop-item-preserved : goal.loop-item-preserved
loop-item-preserved g c =
    item_more g.T.Spelled.kind c.loop-item.yielded c.in-Some.item c.loop-item.read c.in_ok-read.field-0 c.loop-item.invariant c.in_ok-read.ensures ∙ ap (λ xs. Some xs) (sym c.in_ok-push.ensures.ok)
