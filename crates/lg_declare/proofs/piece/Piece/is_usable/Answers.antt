use Rattle.std.proofs.Common.{sym}
use Rattle.lg_declare.proofs.PieceLemmas.{usable-bytes}
use Rattle.lg_declare.proofs.piece.Piece.is_usable.Goals as goal

pub returns-in-Literal : goal.returns-in-Literal
returns-in-Literal c = rw c.in-Literal.is (sym (usable-bytes c.args.names.now c.in-Literal.field-0))
