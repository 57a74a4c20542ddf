-- What the scheduler is told of a family's tasks: numbers. This project's own.
use Rattle.std.specs.Prelude.{ℕ, if◌then◌else◌, ◌&&◌, nat_le, List, codes, Option, Some, None, option_and_then, Ok, ℤ, pos, negsuc}
use Rattle.std.specs.FinMap.{empty, insert}
use Rattle.toml.specs.Data.{Data, Members, no_members, member, get, as_integer, as_table}
use Rattle.lg_base.specs.Amounts.{AmountsByName}
use Rattle.lg_declare.specs.Reading.{Read, ◌>>=◌, right_kind, read_or}
use Rattle.lg_declare.specs.declared.family.Retries.{Retries}
use Rattle.lg_declare.specs.declared.terms.Terms.{Terms}

-- a whole number within the bounds
abbrev pub within : ℕ → ℕ → ℤ → Option ℕ
within low high (pos n) = if nat_le low n && nat_le n high then Some n else None
within low high (negsuc n) = None

unfoldable pub count_at : List ℕ → ℕ → ℕ → Data → Read ℕ
count_at key low high d = right_kind key (option_and_then (within low high) (as_integer d))

unfoldable pub some_count_at : List ℕ → ℕ → ℕ → Data → Read (Option ℕ)
some_count_at key low high d = count_at key low high d >>= λ n. Ok (Some n)

unfoldable pub count_in : List ℕ → ℕ → ℕ → Data → Read (Option ℕ)
count_in key low high tree = read_or None (some_count_at key low high) (get key tree)

-- the amounts behind those found, in the order of the keys' bytes
unfoldable pub amounts_from : AmountsByName → Members → Read AmountsByName
amounts_from found no_members = Ok found
amounts_from found (member name d ms) =
    count_at (codes "resources") 0 4294967295 d >>= λ amount. amounts_from (insert found name amount) ms

unfoldable pub amounts_of : Data → Read AmountsByName
amounts_of d = right_kind (codes "resources") (as_table d) >>= λ members. amounts_from empty members

unfoldable pub resources_in : Data → Read AmountsByName
resources_in tree = read_or empty amounts_of (get (codes "resources") tree)

unfoldable pub priority_in : Data → Read ℤ
priority_in tree = read_or (pos 0) (λ d. right_kind (codes "priority") (as_integer d)) (get (codes "priority") tree)

-- at most 10^12
unfoldable pub retries_in : Data → Read Retries
retries_in tree =
    count_in (codes "retry_count") 0 1000000000000 tree >>= λ count.
    count_in (codes "disable_window") 0 1000000000000 tree >>= λ window.
    count_in (codes "disable_hard_timeout") 0 1000000000000 tree >>= λ timeout.
    Ok (record { retry_count = count; disable_window = window; disable_hard_timeout = timeout })

unfoldable pub terms_in : Data → Read Terms
terms_in tree =
    resources_in tree >>= λ resources.
    priority_in tree >>= λ priority.
    retries_in tree >>= λ retries.
    count_in (codes "max_batch_size") 1 9223372036854775807 tree >>= λ size.
    Ok (record { resources = resources; priority = priority; retries = retries; max_batch_size = size })
