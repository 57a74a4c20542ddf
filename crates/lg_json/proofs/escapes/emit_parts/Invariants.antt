use Rattle.std.proofs.Common.{[], ◌∷◌, ◌++◌}
use Rattle.lg_json.specs.Parts.{joined}
use Rattle.lg_json.specs.Text.{quoted}
use Rattle.lg_io.proofs.CallerLemmas.{WritesUpTo}
use Rattle.lg_json.proofs.Parts.{left_from}
use Rattle.lg_json.proofs.escapes.emit_parts.Given as goal

-- all is written but the parts from this place on and the last quote
abbrev pub invariant-loop-part : goal.invariant-loop-part
invariant-loop-part g l =
    WritesUpTo g.S.Sink.taken g.S.Sink.faults g.S.Sink.rest l.fn.sink l.sink (quoted (joined l.parts)) (left_from l.parts l.part-index ++ 34 ∷ [])
