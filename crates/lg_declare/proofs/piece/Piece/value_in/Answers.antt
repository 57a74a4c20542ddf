use Rattle.std.proofs.Common.{sym, ◌∙◌}
use Rattle.lg_declare.proofs.PieceLemmas.{spelled-bytes}
use Rattle.lg_declare.proofs.piece.Piece.value_in.Goals as goal

pub returns-in-Literal : goal.returns-in-Literal
returns-in-Literal c = rw c.in-Literal.is (c.as_str.ensures.same ∙ sym (spelled-bytes c.args.values.now c.in-Literal.text))
