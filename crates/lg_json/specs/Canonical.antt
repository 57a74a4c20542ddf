-- The canonical text of a task's parameters, of which its id is made. After Luigi 3, which takes `json.dumps` of the
-- parameters in order of their names, without blanks.
use Rattle.std.specs.List.{All}
use Rattle.std.specs.Prelude.{ℕ, ◌≤◌, List, ◌∷◌, ◌++◌, map, IsUtf8}
use Rattle.lg_json.specs.Text.{quoted, braced}

-- the name, a colon and the value
abbrev pub pair_text : List ℕ × List ℕ → List ℕ
pair_text pair = quoted pair.0 ++ 58 ∷ quoted pair.1

-- the pairs in their order, between braces
abbrev pub canonical_text : List (List ℕ × List ℕ) → List ℕ
canonical_text pairs = braced (map pair_text pairs)

-- from the blank to the tilde
abbrev pub IsPrintable : ℕ → Type 0
IsPrintable byte = (32 ≤ byte) × (byte ≤ 126)

-- names and values that are UTF-8, as those of every text are
abbrev pub AreTexts : List (List ℕ × List ℕ) → Type 0
AreTexts = All (λ pair. IsUtf8 pair.0 × IsUtf8 pair.1)
