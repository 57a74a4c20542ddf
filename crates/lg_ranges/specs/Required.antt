-- The missing points that are asked for. This project's own, after Luigi's `RangeDaily` and `RangeHourly`.
use Rattle.std.specs.Prelude.{◌≡◌, ◌⊎◌, ℕ, ℤ, pos, ◌+ℤ◌, ◌<ℤ◌, Bool, true, false, Some, List, ◌++◌, length, map, filter, take, reverse, slice_get, All, Contains}
use Rattle.std.specs.List.{enumerate_from}
use Rattle.lg_ranges.specs.declared.ask.Ask.{Ask}
use Rattle.lg_ranges.specs.Points.{ArePoints}

-- the numbers, counted from `first` on, whose truth value is true
abbrev pub missing_points : ℤ → List Bool → List ℤ
missing_points first missing = map (λ p. first +ℤ pos p.0) (filter (λ p. p.1) (enumerate_from 0 missing))

-- rising, or in reverse falling
abbrev pub in_order : Bool → List ℤ → List ℤ
in_order false numbers = numbers
in_order true numbers = reverse numbers

-- the points are numbered from `first` on, and each has a truth value
abbrev pub AreFrom : Ask → List Bool → ℤ → Type 0
AreFrom ask missing first = ArePoints ask (first, first +ℤ pos (length missing))

abbrev pub IsOnePerPoint : Ask → List Bool → Type 0
IsOnePerPoint ask missing = (first : ℤ) × AreFrom ask missing first

-- the first `limit` missing points, rising, or in reverse the last, falling
pub record AreRequired (ask : Ask) (missing : List Bool) (required : List ℤ) : Type 0 where
  pub first : ℤ
  pub are_points : AreFrom ask missing first
  pub listed : required ≡ take ask.limit (in_order ask.reverse (missing_points first missing))

-- the point at this place, and its truth value says that it is missing
pub record IsMissing (ask : Ask) (missing : List Bool) (number : ℤ) : Type 0 where
  pub first : ℤ
  pub place : ℕ
  pub are_points : AreFrom ask missing first
  pub numbered : number ≡ first +ℤ pos place
  pub told : slice_get missing place ≡ Some true

-- in the order asked for
abbrev pub ComesBefore : Bool → ℤ → ℤ → Type 0
ComesBefore false earlier later = earlier <ℤ later
ComesBefore true earlier later = later <ℤ earlier

-- each missing point is required, or as many as are wanted come before it
abbrev pub LeavesNoneOut : Ask → List Bool → List ℤ → Type 0
LeavesNoneOut ask missing required = (number : ℤ) → IsMissing ask missing number
    → Contains required number ⊎ ((length required ≡ ask.limit) × All (λ other. ComesBefore ask.reverse other number) required)

-- `part` is the beginning of all, or in reverse the end of all, read backwards
abbrev pub IsEndOf : Bool → List ℤ → List ℤ → Type 0
IsEndOf false part all = (rest : List ℤ) × (all ≡ part ++ rest)
IsEndOf true part all = (rest : List ℤ) × (all ≡ rest ++ reverse part)
