use Rattle.std.proofs.Common.{[], ◌∷◌}
use Rattle.lg_io.proofs.CallerLemmas.{UpTo-start, UpTo-piece, UpTo-failed, UpTo-last}
use Rattle.lg_json.specs.Canonical.{pair_text}
use Rattle.lg_json.specs.Text.{quoted}
use Rattle.lg_json.proofs.pairs.emit_pair.Goals as goal

pub returns-in_err-emit_quoted-clause-written : goal.returns-in_err-emit_quoted-clause-written
returns-in_err-emit_quoted-clause-written g c =
    UpTo-failed _ _ _ _ (quoted c.args.name.now) _ c.in_err-emit_quoted.field-0.0 _ (UpTo-start c.args.sink.now (pair_text (c.args.name.now, c.args.value.now)))
    (rw c.as_str.ensures.same at c.in_err-emit_quoted.ensures) c.from_residual.ensures.0

pub returns-in_err-write_all-clause-written : goal.returns-in_err-write_all-clause-written
returns-in_err-write_all-clause-written g c =
    let part = c.in_err-write_all.ensures in
    let named = UpTo-piece _ _ _ _ (quoted c.args.name.now) _ (UpTo-start c.args.sink.now (pair_text (c.args.name.now, c.args.value.now))) (rw c.as_str.ensures.same at c.in_ok-emit_quoted.ensures) in
    UpTo-failed _ _ _ _ (58 ∷ []) _ c.in_err-write_all.field-0.0 _ named (record { told = part.told; cause = part.cause; rest = part.rest }) c.from_residual-in_err-write_all.ensures.0

pub returns-clause-written : goal.returns-clause-written
returns-clause-written g c =
    let colon = c.in_ok-write_all.ensures in
    let named = UpTo-piece _ _ _ _ (quoted c.args.name.now) _ (UpTo-start c.args.sink.now (pair_text (c.args.name.now, c.args.value.now))) (rw c.as_str.ensures.same at c.in_ok-emit_quoted.ensures) in
    UpTo-last _ _ _ _ (quoted c.args.value.now) _ (UpTo-piece _ _ _ _ (58 ∷ []) _ named (record { told = colon.told; cause = colon.cause; rest = colon.rest }))
    (rw c.as_str-2.ensures.same at c.emit_quoted-2.ensures)
