use Rattle.std.proofs.Common.{◌≡◌, ◌∙◌, map, vec_items, rules}
use Rattle.std.proofs.lemmas.List.{map-id}
use Rattle.std.proofs.lemmas.Result.{IfOk-at_ok}
use Rattle.std.proofs.lemmas.Iterator.{items_from_collect, YieldsList-from_map}
use Rattle.std.proofs.lemmas.Iterator.Adapters.{YieldsList-from_vec}
use Rattle.std.proofs.lemmas.Iterator.Consumers.{YieldsList-at}
use Rattle.lg_calls.proofs.arguments.names_of.Goals as goal

pub returns : goal.returns
returns c =
    let items = c.into_vec.result.items in
    let source = YieldsList-at c.map.ensures.source (YieldsList-from_vec items c.into_iter.ensures.rest (search rules)) in
    let all = items_from_collect c.collect.result c.collect.ensures.ran (YieldsList-from_map _ (λ x. x) source c.map.ensures.closure (λ x r q k. search rules)) in
    c.from_vec.ensures ∙ IfOk-at_ok (λ list. vec_items list ≡ map (λ x. x) items) c.in_ok-names.was all ∙ map-id items ∙ c.into_vec.ensures
