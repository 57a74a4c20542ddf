use Rattle.std.proofs.Common.{take}
use Rattle.std.specs.List.{flat_map}
use Rattle.lg_io.specs.Writes.{Writes}
use Rattle.lg_io.proofs.Sequence.{done}
use Rattle.lg_http.proofs.response.write_pieces.Given as goal

-- the pieces so far were written
abbrev pub invariant-loop-piece : goal.invariant-loop-piece
invariant-loop-piece g l =
    Writes g.S.Sink.taken g.S.Sink.faults g.S.Sink.rest l.fn.sink l.sink (flat_map (λ piece. piece.now) (take l.piece-index l.pieces)) done
