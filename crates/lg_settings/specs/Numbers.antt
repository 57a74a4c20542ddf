-- Keys that are whole numbers. This project's own, after Luigi 3's configuration.
use Rattle.std.specs.Prelude.{ℕ, ◌*◌, ◌^◌, ◌&&◌, nat_le, ℤ, pos, negsuc, if◌then◌else◌, List, Option, Some, None, option_and_then}
use Rattle.toml.specs.Data.{Data, as_integer}
use Rattle.lg_settings.specs.declared.numbers.NumberKind.{NumberKind}
use Rattle.lg_settings.specs.Reading.{Reading, key}

-- seconds, kept in milliseconds
abbrev pub time : NumberKind
time = record { least = 0; greatest = 10 ^ 12; unit = 1000 }

-- how many
abbrev pub count : NumberKind
count = record { least = 0; greatest = 10 ^ 12; unit = 1 }

-- how many tasks a scheduler keeps
abbrev pub tasks : NumberKind
tasks = record { least = 1; greatest = 1000000; unit = 1 }

-- how many resources there are of a name
abbrev pub amount : NumberKind
amount = record { least = 0; greatest = 4294967295; unit = 1 }

-- an integer of the kind, in the unit in which it is kept; none where it is out of range
abbrev pub within : NumberKind → ℤ → Option ℕ
within kind (pos n) = if nat_le kind.least n && nat_le n kind.greatest then Some (n * kind.unit) else None
within kind (negsuc n) = None

abbrev pub number_of : NumberKind → Data → Option ℕ
number_of kind value = option_and_then (within kind) (as_integer value)

-- a key that is a number of the kind
abbrev pub number : List ℕ → NumberKind → ℕ → Reading ℕ
number name kind unset = key name (number_of kind) (unset * kind.unit)
