-- The amounts of many tasks together. This project's own.
use Rattle.std.specs.Prelude.{ℕ, ◌+◌, ◌≤◌, ◌^◌, List, find}
use Rattle.std.specs.Option.{option_map_or}
use Rattle.lg_calls.specs.Order.{is_same}
use Rattle.lg_work.specs.declared.sums.Sums.{Sums}

-- how much pairs have of a name: what the first of them has that is of the name, and else nothing
abbrev pub sum_in : List (List ℕ × ℕ) → List ℕ → ℕ
sum_in pairs name = option_map_or (λ pair. pair.1) (find (λ pair. is_same name pair.0) pairs) 0

abbrev pub sum_of : Sums → List ℕ → ℕ
sum_of sums = sum_in sums.pairs.items

-- amounts can be added without passing 64 bits
abbrev pub HasRoom : Sums → Type 0
HasRoom sums = (name : List ℕ) → sum_of sums name + 2 ^ 32 ≤ 2 ^ 64
