-- The commas of a list and of an object.
use Rattle.std.specs.Prelude.{ℕ, Bool, if◌then◌else◌, List, [], ◌∷◌}

-- a comma, where something stands before
abbrev pub comma_if : Bool → List ℕ
comma_if later = if later then 44 ∷ [] else []
