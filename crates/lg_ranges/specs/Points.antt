-- The points of a range. This project's own, after Luigi's `RangeDaily` and `RangeHourly`.
use Rattle.std.specs.Prelude.{ℕ, ℤ, pos, ◌*ℤ◌, ◌+ℤ◌, ◌-ℤ◌, ◌≤ℤ◌, ◌<ℤ◌, ◌↔◌, IfSome}
use Rattle.lg_ranges.specs.declared.ask.Ask.{Ask}
use Rattle.lg_ranges.specs.declared.period.Period.{Period}
use Rattle.lg_ranges.specs.declared.period.Period.TheVariants.{Daily, Hourly}

-- the length of a day, or of an hour
abbrev pub milliseconds_of : Period → ℕ
milliseconds_of Daily = 86_400_000
milliseconds_of Hourly = 3_600_000

-- when the day or hour of this number begins, in milliseconds from 1970-01-01T00:00:00Z
abbrev pub moment_of : Period → ℤ → ℤ
moment_of period number = number *ℤ pos (milliseconds_of period)

-- so many days or hours, in milliseconds
abbrev pub span_of : Period → ℕ → ℤ
span_of period count = pos count *ℤ pos (milliseconds_of period)

-- its moment is at least start, at least now less back, below stop, and below now plus forward
pub record IsPoint (ask : Ask) (number : ℤ) : Type 0 where
  pub from_start : IfSome ask.start (λ start. moment_of ask.period start ≤ℤ moment_of ask.period number)
  pub from_back : (pos ask.now.0 -ℤ span_of ask.period ask.back) ≤ℤ moment_of ask.period number
  pub before_stop : IfSome ask.stop (λ stop. moment_of ask.period number <ℤ moment_of ask.period stop)
  pub before_forward : moment_of ask.period number <ℤ (pos ask.now.0 +ℤ span_of ask.period ask.forward)

-- from a first number up to one behind the last
abbrev pub LiesIn : ℤ × ℤ → ℤ → Type 0
LiesIn ends number = (ends.0 ≤ℤ number) × (number <ℤ ends.1)

-- between these ends lie all points, and nothing else
pub record ArePoints (ask : Ask) (ends : ℤ × ℤ) : Type 0 where
  pub in_order : ends.0 ≤ℤ ends.1
  pub points : (number : ℤ) → LiesIn ends number ↔ IsPoint ask number
