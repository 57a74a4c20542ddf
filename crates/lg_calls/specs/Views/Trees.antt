-- What stands in a reply for the values that replies are made of. This project's own, after Luigi's central scheduler.
use Rattle.std.specs.FinMap.{entries}
use Rattle.std.specs.Prelude.{ℕ, pos, List, Option, Some, None, map}
use Rattle.lg_base.specs.Amounts.{AmountsByName}
use Rattle.lg_base.specs.declared.moment.Moment.{Moment}
use Rattle.lg_calls.specs.declared.status.Status.{Status}
use Rattle.lg_calls.specs.Words.{status_word}
use Rattle.lg_json.specs.Tree.{Tree, null, int, str, list, object, trees_of, members_of}

-- fields, each with its name
abbrev pub Fields : Type 0
Fields = List (List ℕ × Tree)

-- an object of fields
abbrev pub record_of : Fields → Tree
record_of fields = object (members_of fields)

-- a number that can't be negative
abbrev pub number : ℕ → Tree
number n = int (pos n)

-- a moment is its milliseconds
abbrev pub moment : Moment → Tree
moment when = number when.0

-- a status is its word
abbrev pub status : Status → Tree
status s = str (status_word s)

-- an absent value is null
abbrev pub maybe : {A : Type 0} → (A → Tree) → Option A → Tree
maybe tree None = null
maybe tree (Some x) = tree x

-- a list, in its order
abbrev pub listed : {A : Type 0} → (A → Tree) → List A → Tree
listed tree xs = list (trees_of (map tree xs))

-- values by name are an object
abbrev pub by_name : {A : Type 0} → (A → Tree) → List (List ℕ × A) → Tree
by_name tree pairs = record_of (map (λ pair. (pair.0, tree pair.1)) pairs)

-- amounts, in the order of the names' bytes
abbrev pub amounts : AmountsByName → Tree
amounts all = by_name number (entries all)
