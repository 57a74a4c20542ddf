use Rattle.std.proofs.Common.{◌≡◌, ℕ, List, [], ◌∷◌, map, ap, ◌∙◌, rules}
use Rattle.std.proofs.lemmas.Iterator.{YieldsList-from_slice, YieldsList-from_map_by}
use Rattle.std.proofs.lemmas.Iterator.Consumers.{map_from_collect}
use Rattle.std.proofs.lemmas.List.{map-id}
use Rattle.std.proofs.lemmas.Result.{IfOk-at_ok, IfOk-weaker}
use Rattle.std.specs.List.{join_by}
use Rattle.std.specs.Borrow.{Bor}
use Rattle.lg_taskid.proofs.Joins.{join_by-map}
use Rattle.lg_taskid.proofs.batch.joined.Goals as goal

pub returns : goal.returns
returns c =
    let text : Bor (List ℕ) → List ℕ = λ t. t.now in
    let same : List ℕ → List ℕ = λ id. id in
    let collected : map text c.in_ok-texts.texts.items ≡ map same c.args.ids.now = IfOk-at_ok _ c.in_ok-texts.was (map_from_collect _ c.collect.ensures.ran (YieldsList-from_map_by _ text same (YieldsList-from_slice c.args.ids.now cc) c.map.ensures.closure (λ x r q k. search rules))) in
    IfOk-weaker c.join.result _ _ (λ t is. is ∙ ap (join_by text (124 ∷ [])) c.deref.ensures.value ∙ join_by-map text (124 ∷ []) c.in_ok-texts.texts.items ∙ ap (join_by same (124 ∷ [])) (collected ∙ map-id c.args.ids.now)) c.join.ensures.ok
