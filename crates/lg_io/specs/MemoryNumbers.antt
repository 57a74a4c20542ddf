-- What numbers in memory tell, from what they keep, and what they are to do. This project's own.
use Rattle.std.specs.Prelude.{◌≡◌, ℕ, ◌<◌, List, [], ◌∷◌, ◌++◌, take, drop, length, slice_index, Option, Some, None, option_map, if◌then◌else◌}
use Rattle.lg_io.specs.declared.memory.numbers.MemoryNumbers.{MemoryNumbers}

-- the numbers that were drawn, while they are told
abbrev pub drawn_numbers : MemoryNumbers → Option (List ℕ)
drawn_numbers n = if n.is_told then Some (take n.drawn n.numbers.items) else None

-- the numbers that are left
abbrev pub numbers_ahead : MemoryNumbers → List ℕ
numbers_ahead n = drop n.drawn n.numbers.items

-- one draw: the next of the numbers that are left, which is told, or 0 where none is left
pub record DrawsNext (old new : MemoryNumbers) (number : ℕ) : Type 0 where
  pub is : number ≡ slice_index (numbers_ahead old) 0
  pub goes_on : numbers_ahead new ≡ drop 1 (numbers_ahead old)
  pub told : 0 < length (numbers_ahead old) →
      drawn_numbers new ≡ option_map (λ ns. ns ++ number ∷ []) (drawn_numbers old)
