-- Where the reader of templates stands. This project's own.
use Rattle.std.specs.Prelude.{◌≡◌, ℕ, List, ◌++◌, map, string_bytes, Vec, encode_utf8, Option, None, Result, Ok, Err}
use Rattle.std.specs.declared.alloc.Global.{Global}
use Rattle.lg_declare.specs.Template.{Part, byte, Standing, outside, opened, inside, closed, parts_from, behind}
use Rattle.lg_declare.specs.Pieces.{parts_of_pieces}
use Rattle.lg_declare.specs.declared.fault.TemplateFault.{TemplateFault}
use Rattle.lg_declare.specs.declared.fault.TemplateFault.TheVariants.{BadTemplate, NoMemory}
use Rattle.lg_declare.specs.declared.piece.Piece.{Piece}
use Rattle.lg_declare.specs.declared.reader.Reader.{Reader}
use Rattle.lg_declare.specs.declared.reader.Place as code
use Rattle.lg_declare.specs.declared.reader.Place.TheVariants.{Outside, Opened, Inside, Closed}

-- the place in the template, with what was read of a word
abbrev pub standing_at : code.Place → List ℕ → Standing
standing_at Outside read = outside
standing_at Opened read = opened
standing_at Inside read = inside read
standing_at Closed read = closed

-- the parts that the reader has
abbrev pub parts_in : Reader → List Part
parts_in reader = parts_of_pieces reader.pieces.items ++ map byte (string_bytes reader.literal)

-- the parts that it will have behind these bytes, if they end the text
abbrev pub resumed : Reader → List ℕ → Option (List Part)
resumed reader rest = behind (parts_in reader) (parts_from (standing_at reader.place (string_bytes reader.word)) rest)

-- a character was taken: what follows makes the same parts; or no text goes on so
abbrev pub Takes : Reader → ℕ → Reader → Result (Unit {0}) TemplateFault → Type 0
Takes before c behind (Ok _) = (rest : List ℕ) → resumed behind rest ≡ resumed before (encode_utf8 c ++ rest)
Takes before c behind (Err BadTemplate) = (rest : List ℕ) → resumed before (encode_utf8 c ++ rest) ≡ None
Takes before c behind (Err NoMemory) = Unit {0}

-- an answer in pieces, as its parts
abbrev pub pieces_of : Result (Vec Piece Global) TemplateFault → Result (List Part) TemplateFault
pieces_of (Ok pieces) = Ok (parts_of_pieces pieces.items)
pieces_of (Err fault) = Err fault
