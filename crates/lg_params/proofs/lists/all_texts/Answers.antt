use Rattle.std.proofs.Common.{sym, ◌∙◌}
use Rattle.std.proofs.lemmas.Iterator.Adapters.{YieldsList-from_vec}
use Rattle.std.proofs.lemmas.Iterator.Consumers.{YieldsList-turn}
use Rattle.serde_json.specs.View.{view}
use Rattle.lg_params.proofs.ListLemmas.{not_all_texts}
use Rattle.lg_params.proofs.lists.all_texts.Goals as goal

pub returns-in_default : goal.returns-in_default
returns-in_default c = λ texts e.
    let gives = c.into_iter-item-iterator.ensures.into_iter_gives in
    let turn = YieldsList-turn (YieldsList-from_vec c.args.items.items (cc) (cc)) c.loop-item.yielded c.loop-item.item-iterator c.loop-item.yielded_by c.next.result c.next.new.self c.in-Some.item c.in-Some.is c.next.ensures.steps in
    not_all_texts view c.args.items.items _ _ texts turn.0 turn.1 (sym c.into_text.ensures ∙ c.in_default.is) e
