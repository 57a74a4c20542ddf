-- How a template is kept: bytes that stand for themselves in one piece. This project's own.
use Rattle.std.specs.Prelude.{List, [], ◌∷◌, flat_map, map}
use Rattle.lg_declare.specs.Template.{Part, byte, word}
use Rattle.lg_declare.specs.declared.piece.Piece.{Piece}
use Rattle.lg_declare.specs.declared.piece.Piece.TheVariants.{Literal, Word}

abbrev pub parts_of_piece : Piece → List Part
parts_of_piece (Literal text) = map byte text
parts_of_piece (Word name) = word name ∷ []

abbrev pub parts_of_pieces : List Piece → List Part
parts_of_pieces pieces = flat_map parts_of_piece pieces
