use Rattle.std.proofs.Common.{suc, drop}
use Rattle.std.specs.List.{flat_map}
use Rattle.lg_http.proofs.PieceLemmas.{bytes_in, pieces_at}
use Rattle.lg_io.proofs.Sequence.{Writes-cut, Writes-then, Writes-same}
use Rattle.lg_http.proofs.response.write_pieces.Goals as goal

pub returns-in_err-write_all : goal.returns-in_err-write_all
returns-in_err-write_all g c =
    let part = c.in_err-write_all.ensures in
    let behind = flat_map bytes_in (drop (suc c.loop-piece.piece-index) c.args.pieces.now) in
    Writes-same _ _ _ _ _ (pieces_at c.args.pieces.now c.loop-piece.piece-index _ c.loop-piece-test.true)
    (Writes-then _ _ _ _ _ _ c.loop-piece.invariant
    (Writes-cut _ _ _ behind c.in_err-write_all.field-0.0 _ c.from_residual.ensures.0 (record { told = part.told; cause = part.cause; rest = part.rest })))
