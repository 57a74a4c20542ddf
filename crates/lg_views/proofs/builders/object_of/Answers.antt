use Rattle.std.proofs.Common.{◌≡◌, ap, ◌∙◌, map, take, arith}
use Rattle.std.proofs.lemmas.List.{take_all}
use Rattle.lg_calls.specs.Views.Trees.{record_of}
use Rattle.lg_views.proofs.BuildLemmas.{holds_here, built_more}
use Rattle.lg_views.proofs.builders.object_of.Goals as goal

pub put-requires : goal.put-requires
put-requires g c =
    holds_here (λ pair. g.T.Shown.fits pair.1) c.args.pairs.now c.loop-name.name-index c.loop-name-item.result (omega arith) c.loop-name-item.is c.requires

pub loop-name-preserved : goal.loop-name-preserved
loop-name-preserved g c =
    built_more (λ pair. (pair.0, g.T.Shown.tree pair.1)) _ _ c.args.pairs.now c.loop-name.name-index c.loop-name-item.result (omega arith) c.loop-name-item.is c.loop-name.invariant
    (rw c.as_str.ensures.same at c.in_ok-put.ensures)

pub returns : goal.returns
returns g c =
    let l = c.loop-name in
    let whole : take l.name-index c.args.pairs.now ≡ c.args.pairs.now = take_all l.name-index c.args.pairs.now (omega arith) in
    c.into_out.ensures ∙ ap record_of (l.invariant ∙ ap (map (λ pair. (pair.0, g.T.Shown.tree pair.1))) whole)
