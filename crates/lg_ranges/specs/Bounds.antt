-- The bounds of a range in numbers. This project's own.
use Rattle.std.specs.Prelude.{ℤ, pos, ◌+ℤ◌, ◌-ℤ◌, ◌≤ℤ◌, ◌<ℤ◌, IfSome}
use Rattle.lg_base.specs.declared.moment.Moment.{Moment}
use Rattle.lg_ranges.specs.declared.ask.Ask.{Ask}
use Rattle.lg_ranges.specs.declared.period.Period.{Period}
use Rattle.lg_ranges.specs.Points.{moment_of}

-- the first day or hour that begins at the moment or later
pub record IsFirstFrom (period : Period) (moment : Moment) (number : ℤ) : Type 0 where
  pub not_before : pos moment.0 ≤ℤ moment_of period number
  pub first : moment_of period (number -ℤ pos 1) <ℤ pos moment.0

-- `number` is inside the bounds, where `back` and `forward` are counted from the day or hour `now`
pub record IsInside (ask : Ask) (now number : ℤ) : Type 0 where
  pub from_start : IfSome ask.start (λ start. start ≤ℤ number)
  pub from_back : (now -ℤ pos ask.back) ≤ℤ number
  pub before_stop : IfSome ask.stop (λ stop. number <ℤ stop)
  pub before_forward : number <ℤ (now +ℤ pos ask.forward)
