use Rattle.std.proofs.Common.{◌∷◌, ◌++◌, []}
use Rattle.lg_http.proofs.TargetLemmas.{blank_push}
use Rattle.lg_http.proofs.target.without_empty_lines.Goals as goal

pub loop-left-preserved : goal.loop-left-preserved
loop-left-preserved c =
    let before = c.loop-left.invariant in
    let line = c.in-Some.ensures.found in
    (before.0 ++ line.0 ∷ [], blank_push _ _ _ before.0 line.0 before.1 line.1)
