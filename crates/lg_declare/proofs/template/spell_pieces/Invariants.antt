use Rattle.std.proofs.Common.{◌≡◌, take}
use Rattle.std.specs.String.{string_bytes}
use Rattle.lg_declare.specs.Pieces.{parts_of_pieces}
use Rattle.lg_declare.specs.Template.{spelled}
use Rattle.lg_declare.proofs.template.spell_pieces.Given as goal

abbrev pub invariant-loop-piece : goal.invariant-loop-piece
invariant-loop-piece l = string_bytes l.spelled ≡ spelled l.values (parts_of_pieces (take l.piece-index l.pieces))
