-- A list that an object tells optionally. This project's own.
use Rattle.std.specs.Prelude.{◌≡◌, List, ◌++◌, Option, Some, None}

-- What is told goes on by these items, or the object tells it no longer; what isn't told stays so.
abbrev pub TellsOn : {A : Type 0} → Option (List A) → Option (List A) → List A → Type 0
TellsOn old None items = Unit {0}
TellsOn None (Some new) items = ⊥
TellsOn (Some old) (Some new) items = new ≡ old ++ items
