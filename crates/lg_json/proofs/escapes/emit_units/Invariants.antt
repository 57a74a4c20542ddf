use Rattle.std.proofs.Common.{drop, flat_map}
use Rattle.lg_json.specs.Escapes.{unit_escape}
use Rattle.lg_io.proofs.CallerLemmas.{WritesUpTo}
use Rattle.lg_json.proofs.escapes.emit_units.Given as goal

abbrev pub invariant-loop-unit : goal.invariant-loop-unit
invariant-loop-unit g l =
    WritesUpTo g.S.Sink.taken g.S.Sink.faults g.S.Sink.rest l.fn.sink l.sink (flat_map unit_escape l.units) (flat_map unit_escape (drop l.unit-index l.units))
