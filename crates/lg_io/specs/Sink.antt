-- What a sink took. This project's own, after `std::io::Write`.
use Rattle.std.specs.Prelude.{◌≡◌, ℕ, ◌<◌, ◌≤◌, List, [], ◌++◌, take, Option, Some, None, Result, Ok, Err}
use Rattle.lg_io.specs.declared.sink.WriteStep.{WriteStep}
use Rattle.lg_io.specs.declared.sink.WriteStep.TheVariants.{Took, Failed}

-- the front of a piece that an answer takes
abbrev pub taken_of : WriteStep → List ℕ → List ℕ
taken_of (Took count) piece = take count piece
taken_of Failed piece = []

-- a count of bytes fits the piece, and is above 0 where the piece isn't empty
abbrev pub FitsPiece : WriteStep → ℕ → Type 0
FitsPiece (Took count) room = (count ≤ room) × (0 < room → 0 < count)
FitsPiece Failed room = Unit {0}

-- a sink that tells what it took tells these bytes more
abbrev pub Takes : Option (List ℕ) → Option (List ℕ) → List ℕ → Type 0
Takes None new bytes = new ≡ None
Takes (Some old) new bytes = new ≡ Some (old ++ bytes)

-- the second list begins with the first
abbrev pub IsPrefix : List ℕ → List ℕ → Type 0
IsPrefix front whole = (rest : List ℕ) × (whole ≡ front ++ rest)

-- A write of a whole text: the sink took all of it, or a front of it where the write failed.
abbrev pub WritesAll : {T E : Type 0} → Option (List ℕ) → Option (List ℕ) → List ℕ → Result T E → Type 0
WritesAll old new text (Ok x) = Takes old new text
WritesAll old new text (Err e) = (front : List ℕ) × IsPrefix front text × Takes old new front
