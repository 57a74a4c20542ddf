use Rattle.std.proofs.Common.{◌≡◌, ap, ◌∙◌, map, take, rules, arith}
use Rattle.std.proofs.lemmas.List.{take_all}
use Rattle.lg_json.specs.declared.out.Out.{the_lemmas}
use Rattle.lg_json.specs.declared.out.Out.TheVariants as O
use Rattle.lg_json.specs.Tree.{tree_of, trees_view, list, trees_of}
use Rattle.lg_views.proofs.BuildLemmas.{holds_here, built_more, pushed}
use Rattle.lg_views.proofs.builders.list_of.Goals as goal

pub show-requires : goal.show-requires
show-requires g c =
    holds_here g.T.Shown.fits c.args.items.now c.loop-item.item-index c.item-item.result (omega arith) c.item-item.is c.requires

pub loop-item-preserved : goal.loop-item-preserved
loop-item-preserved g c =
    built_more g.T.Shown.tree _ _ c.args.items.now c.loop-item.item-index c.item-item.result (omega arith) c.item-item.is c.loop-item.invariant
    (pushed _ _ _ c.in_ok-out.out c.in_ok-push.ensures.items c.in_ok-out.ensures)

pub returns : goal.returns
returns g c =
    let l = c.loop-item in
    let seen : tree_of (O.List l.outs) ≡ list (trees_view l.outs.items) = search (rules, the_lemmas) in
    let whole : take l.item-index c.args.items.now ≡ c.args.items.now = take_all l.item-index c.args.items.now (omega arith) in
    seen ∙ ap (λ trees. list (trees_of trees)) (l.invariant ∙ ap (map g.T.Shown.tree) whole)
