use Rattle.std.proofs.Common.{◌≡◌, ◌∷◌, [], ◌++◌, ◌+◌, take, refl, sym, ap, ◌∙◌, subst, arith}
use Rattle.std.proofs.lemmas.List.{take_more, take_all}
use Rattle.lg_views.specs.Walking.{Marks, has_one_of}
use Rattle.lg_views.proofs.WalkLemmas.{Marks-none, Marks-append}
use Rattle.lg_views.proofs.upstream.spread_to.Goals as goal

pub loop-id-init : goal.loop-id-init
loop-id-init g c = Marks-none (g.K.Look.shelf c.args.state.now) (has_one_of []) c.args.walk.now (λ t. refl)

pub loop-id-preserved : goal.loop-id-preserved
loop-id-preserved g c =
    let ids = c.args.ids.now in
    let i = c.loop-id.id-index in
    let id = c.id-item.result in
    let more : take (i + 1) ids ≡ take i ids ++ id ∷ [] = take_more ids i id (omega arith) ∙ ap (λ d. take i ids ++ d ∷ []) (sym c.id-item.is) in
    let shelf = g.K.Look.shelf c.args.state.now in
    subst (λ l. Marks shelf (has_one_of l) c.args.walk.now c.reach.new.walk) (sym more)
    (Marks-append shelf (take i ids) (id ∷ []) c.args.walk.now c.loop-id.walk c.reach.new.walk c.loop-id.invariant c.reach.ensures)

pub returns : goal.returns
returns g c =
    let whole : take c.loop-id.id-index c.args.ids.now ≡ c.args.ids.now = take_all c.loop-id.id-index c.args.ids.now (omega arith) in
    subst (λ l. Marks (g.K.Look.shelf c.args.state.now) (has_one_of l) c.args.walk.now c.loop-id.walk) whole c.loop-id.invariant
