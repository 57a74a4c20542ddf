use Rattle.std.proofs.Common.{[], ◌∷◌, ◌++◌}
use Rattle.lg_json.specs.Text.{text_of}
use Rattle.lg_json.specs.Tree.{tree_of}
use Rattle.lg_io.proofs.CallerLemmas.{Writes-cut, Writes-then, Writes-same}
use Rattle.lg_http.proofs.PieceLemmas.{response_parts}
use Rattle.lg_http.proofs.response.respond.Goals as goal

pub returns-in_err-write_front-clause-told : goal.returns-in_err-write_front-clause-told
returns-in_err-write_front-clause-told g c =
    let parts = response_parts c.args.status (tree_of c.args.tree.now) c.args.last c.length.result c.length.ensures in
    (Writes-same _ _ _ _ _ parts
    (Writes-cut _ _ _ (text_of (tree_of c.args.tree.now) ++ 125 ∷ []) c.in_err-write_front.field-0.0 _ c.from_residual.ensures.0 c.in_err-write_front.ensures)).told

pub returns-in_err-emit-clause-told : goal.returns-in_err-emit-clause-told
returns-in_err-emit-clause-told g c =
    let parts = response_parts c.args.status (tree_of c.args.tree.now) c.args.last c.length.result c.length.ensures in
    let part = c.in_err-emit.ensures in
    (Writes-same _ _ _ _ _ parts
    (Writes-then _ _ _ _ _ _ c.in_ok-write_front.ensures
    (Writes-cut _ _ _ (125 ∷ []) c.in_err-emit.field-0.0 _ c.from_residual-in_err-emit.ensures.0 (record { told = part.told; cause = part.cause; rest = part.rest })))).told

pub returns-clause-told : goal.returns-clause-told
returns-clause-told g c =
    let parts = response_parts c.args.status (tree_of c.args.tree.now) c.args.last c.length.result c.length.ensures in
    let wrote = c.in_ok-emit.ensures in
    let closed = c.write_all.ensures in
    (Writes-same _ _ _ _ _ parts
    (Writes-then _ _ _ _ _ _ c.in_ok-write_front.ensures
    (Writes-then _ _ _ _ _ _ (record { told = wrote.told; cause = wrote.cause; rest = wrote.rest })
    (record { told = closed.told; cause = closed.cause; rest = closed.rest })))).told
