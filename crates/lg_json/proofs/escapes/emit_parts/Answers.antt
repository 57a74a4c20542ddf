use Rattle.std.proofs.Common.{[], ◌∷◌, ◌++◌, ◌+◌, append_assoc}
use Rattle.lg_io.specs.Writes.{Writes}
use Rattle.lg_json.specs.Parts.{joined}
use Rattle.lg_json.specs.Text.{quoted}
use Rattle.lg_io.proofs.CallerLemmas.{UpTo-start, UpTo-piece, UpTo-failed, UpTo-last}
use Rattle.lg_json.proofs.Parts.{left_from, next_part, no_part_left}
use Rattle.lg_json.proofs.escapes.emit_parts.Goals as goal

pub returns-in_err-write_all-clause-told : goal.returns-in_err-write_all-clause-told
returns-in_err-write_all-clause-told g c =
    let part = c.in_err-write_all.ensures in
    let all : Writes g.S.Sink.taken g.S.Sink.faults g.S.Sink.rest c.args.sink.now c.write_all.new.sink (quoted (joined c.args.parts.now)) c.from_residual.result =
    UpTo-failed _ _ _ _ (34 ∷ []) (left_from c.args.parts.now 0 ++ 34 ∷ []) c.in_err-write_all.field-0.0 _ (UpTo-start c.args.sink.now (quoted (joined c.args.parts.now)))
    (record { told = part.told; cause = part.cause; rest = part.rest }) c.from_residual.ensures.0
    in all.told

pub returns-in_err-emit_escaped-clause-told : goal.returns-in_err-emit_escaped-clause-told
returns-in_err-emit_escaped-clause-told g c =
    let next = next_part c.args.parts.now c.loop-part.part-index _ c.loop-part-test.true c.in_err-emit_escaped.ensures.utf8 in
    let all : Writes g.S.Sink.taken g.S.Sink.faults g.S.Sink.rest c.args.sink.now c.emit_escaped.new.sink (quoted (joined c.args.parts.now)) c.from_residual-in_err-emit_escaped.result =
    UpTo-failed _ _ _ _ _ (left_from c.args.parts.now (c.loop-part.part-index + 1) ++ 34 ∷ []) c.in_err-emit_escaped.field-0.0 _ (rw (next, append_assoc) at c.loop-part.invariant)
    c.in_err-emit_escaped.ensures.written c.from_residual-in_err-emit_escaped.ensures.0
    in all.told

pub loop-part-preserved : goal.loop-part-preserved
loop-part-preserved g c =
    let next = next_part c.args.parts.now c.loop-part.part-index _ c.loop-part-test.true c.in_ok-emit_escaped.ensures.utf8 in
    UpTo-piece _ _ _ _ _ (left_from c.args.parts.now (c.loop-part.part-index + 1) ++ 34 ∷ []) (rw (next, append_assoc) at c.loop-part.invariant) c.in_ok-emit_escaped.ensures.written

pub returns-clause-told : goal.returns-clause-told
returns-clause-told g c =
    let closed = c.write_all-2.ensures in
    let all : Writes g.S.Sink.taken g.S.Sink.faults g.S.Sink.rest c.args.sink.now c.write_all-2.new.sink (quoted (joined c.args.parts.now)) c.write_all-2.result =
    UpTo-last _ _ _ _ (34 ∷ []) _ (rw (no_part_left c.args.parts.now c.loop-part.part-index c.loop-part-test.false) at c.loop-part.invariant)
    (record { told = closed.told; cause = closed.cause; rest = closed.rest })
    in all.told
