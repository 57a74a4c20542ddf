use Rattle.std.proofs.Common.{◌∙◌, sym, ap, length}
use Rattle.lg_json.specs.Escapes.{escape}
use Rattle.lg_json.proofs.Characters.{escaped_past_char, escaped_nothing}
use Rattle.lg_io.proofs.CallerLemmas.{UpTo-piece, UpTo-failed, UpTo-end}
use Rattle.lg_json.proofs.escapes.emit_escaped.Goals as goal

pub returns-in_err-write_all-clause-written : goal.returns-in_err-write_all-clause-written
returns-in_err-write_all-clause-written g c =
    let part = rw c.as_bytes.ensures.value at c.in_err-write_all.ensures in
    UpTo-failed _ _ _ _ c.split_plain.result.0.now _ c.in_err-write_all.field-0.0 _ (rw c.split_plain.ensures.same at c.loop-characters.invariant.1)
    (record { told = part.told; cause = part.cause; rest = part.rest }) c.from_residual.ensures.0

pub returns-in_default-clause-written : goal.returns-in_default-clause-written
returns-in_default-clause-written g c =
    let wrote = rw c.as_bytes.ensures.value at c.in_ok-write_all.ensures in
    let plain = UpTo-piece _ _ _ _ c.split_plain.result.0.now _ (rw c.split_plain.ensures.same at c.loop-characters.invariant.1) (record { told = wrote.told; cause = wrote.cause; rest = wrote.rest }) in
    UpTo-end _ _ _ (rw (escaped_nothing c.split_plain.result.1.now (ap length (sym c.chars-characters.ensures.rest) ∙ c.in_default.ensures.steps.0.0)) at plain)

pub returns-in_err-emit_escape-clause-written : goal.returns-in_err-emit_escape-clause-written
returns-in_err-emit_escape-clause-written g c =
    let wrote = rw c.as_bytes.ensures.value at c.in_ok-write_all.ensures in
    let plain = UpTo-piece _ _ _ _ c.split_plain.result.0.now _ (rw c.split_plain.ensures.same at c.loop-characters.invariant.1) (record { told = wrote.told; cause = wrote.cause; rest = wrote.rest }) in
    let next = escaped_past_char _ _ c.in-Some.c c.split_plain.ensures.utf8 (sym c.chars-characters.ensures.rest ∙ c.in-Some.ensures.steps.0) in
    UpTo-failed _ _ _ _ (escape c.in-Some.c) _ c.in_err-emit_escape.field-0.0 _ (rw next at plain) c.in_err-emit_escape.ensures c.from_residual-in_err-emit_escape.ensures.0

pub loop-characters-preserved : goal.loop-characters-preserved
loop-characters-preserved g c =
    let wrote = rw c.as_bytes.ensures.value at c.in_ok-write_all.ensures in
    let plain = UpTo-piece _ _ _ _ c.split_plain.result.0.now _ (rw c.split_plain.ensures.same at c.loop-characters.invariant.1) (record { told = wrote.told; cause = wrote.cause; rest = wrote.rest }) in
    let next = escaped_past_char _ _ c.in-Some.c c.split_plain.ensures.utf8 (sym c.chars-characters.ensures.rest ∙ c.in-Some.ensures.steps.0) in
    (c.as_str-left.utf8, rw c.as_str-left.ensures (UpTo-piece _ _ _ _ (escape c.in-Some.c) _ (rw next at plain) c.in_ok-emit_escape.ensures))
