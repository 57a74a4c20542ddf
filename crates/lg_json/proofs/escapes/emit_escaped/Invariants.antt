use Rattle.std.proofs.Common.{length}
use denote.Text.{Utf8}
use denote.Shadow.{shadow}
use Rattle.std.specs.Prelude.{chars}
use Rattle.lg_json.specs.Escapes.{escaped}
use Rattle.lg_io.proofs.CallerLemmas.{WritesUpTo}
use Rattle.lg_json.proofs.escapes.emit_escaped.Given as goal

abbrev pub invariant-loop-characters : goal.invariant-loop-characters
invariant-loop-characters g l =
    shadow (Utf8 l.left) × WritesUpTo g.S.Sink.taken g.S.Sink.faults g.S.Sink.rest l.fn.sink l.sink (escaped (chars l.text)) (escaped (chars l.left))

abbrev pub decreases-loop-characters : goal.decreases-loop-characters
decreases-loop-characters g l = length l.left
