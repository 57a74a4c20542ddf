-- A point as the value of a task's parameter: a date, or a date with its hour (ISO 8601, by the kinds of `lg_params`).
use Rattle.std.specs.Prelude.{ℤ}
use Rattle.lg_params.specs.declared.params.Param.{Param}
use Rattle.lg_ranges.specs.declared.period.Period.{Period}
use Rattle.lg_ranges.specs.declared.period.Period.TheVariants.{Daily, Hourly}

abbrev pub param_of : Period → ℤ → Param
param_of Daily number = Param.Date number
param_of Hourly number = Param.DateHour number
