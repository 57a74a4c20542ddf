-- The days of the years 0001 to 9999.
use Rattle.std.proofs.Common.{◌≡◌, ℕ, ◌<◌, ◌≤◌, ℤ, pos, ◌≤ℤ◌, unsigned_abs, arith, refl, ap, rules}
use Rattle.std.proofs.lemmas.Int.{ints, by_lt_z}
use Rattle.jiff_core.specs.Calendar.{IsCivilDate, IsDate, day_count, days_from_civil}
use Rattle.jiff_core.proofs.CalendarLemmas.{days_from_civil-day_count, day_count-lt_year, day_count-day_of_year, day_count_bounds, days_in_month_bounds}
use Rattle.jiff_core.proofs.MarchLemmas.{day_count-early}
use Rattle.jiff_core.proofs.DateLemmas.{civil}
use Rattle.jiff_core.specs.Date.{epoch_day}
use Rattle.jiff_core.specs.declared.civil.date.Date.{Date}
use Rattle.lg_params.specs.Dates.{IsNamedYear}
use Rattle.lg_params.specs.Ranges.{IsDay}

-- the calendar's two ways to say that it has a day
pub civil_from_date : (y m d : ℕ) → IsDate (pos y) (pos m) (pos d) → IsCivilDate (pos y) m d
civil_from_date y m d is = (is.0, (omega (arith, ints), omega (arith, ints)), (omega (arith, ints), omega (arith, ints)))

pub date_from_civil : (y m d : ℕ) → IsCivilDate (pos y) m d → IsDate (pos y) (pos m) (pos d)
date_from_civil y m d is = (is.0, (omega (arith, ints), omega (arith, ints)), (omega (arith, ints), omega (arith, ints)))

day_count-first : day_count (pos 1) 1 1 ≡ 3_652_791
day_count-first = day_count-early (pos 1) 10000 1 1 refl (omega arith) (omega arith) (omega arith)

-- no day of these years is in front of the first
first_day : (y m d : ℕ) → IsNamedYear y → IsCivilDate (pos y) m d → 3_652_791 ≤ day_count (pos y) m d
first_day y m d year is =
    by_lt_z (pos 1) (pos y)
    (λ later. omega (arith, day_count-first, day_count-lt_year (pos 1) 1 1 (pos y) m d (search rules) is.2.0 later))
    (λ same.
    let e : y ≡ 1 = omega (arith, ints) in
    rw e (omega (arith, day_count-first, day_count-day_of_year (pos 1) m d is.2.0)))

pub day_in_range : (y m d : ℕ) → IsNamedYear y → IsCivilDate (pos y) m d → IsDay (days_from_civil (pos y) m d)
day_in_range y m d year is =
    let low = first_day y m d year is in
    let high = day_count_bounds (pos y) m d is in
    (omega (arith, ints, days_from_civil-day_count (pos y) m d), omega (arith, ints, days_from_civil-day_count (pos y) m d))

-- a date that has this year, month and day
pub same_day : (date : Date) (y m d : ℕ) → date.year ≡ pos y → date.month ≡ m → date.day ≡ d → IsCivilDate (pos y) m d × (epoch_day date ≡ days_from_civil (pos y) m d)
same_day date y m d year month day =
    (rw (year, month, day) at (civil date), ap (λ (t : ℤ × ℕ × ℕ). days_from_civil t.0 t.1 t.2) (cc))

pub day_below : (y m d : ℕ) → IsCivilDate (pos y) m d → d < 100
day_below y m d is = omega (arith, days_in_month_bounds (pos y) m)

-- a day from 0001-01-01 on is of a year from 1 on
pub year_of_day : (date : Date) → IsDay (epoch_day date) → (pos 1 ≤ℤ date.year) × (date.year ≤ℤ pos 9999)
year_of_day date is =
    by_lt_z date.year (pos 1)
    (λ earlier. absurd (omega (arith, ints, day_count-first, days_from_civil-day_count date.year date.month date.day, day_count-lt_year date.year date.month date.day (pos 1) 1 1 (civil date) (omega arith) earlier, is.0)))
    (λ low. (low, (civil date).0.1))

pub day_of_year : (date : Date) → (pos 1 ≤ℤ date.year) × (date.year ≤ℤ pos 9999) → IsDay (epoch_day date)
day_of_year date years =
    let year : date.year ≡ pos (unsigned_abs date.year) = omega (arith, ints) in
    let same = same_day date (unsigned_abs date.year) date.month date.day year refl refl in
    rw same.1 (day_in_range (unsigned_abs date.year) date.month date.day (omega (arith, ints), omega (arith, ints)) same.0)
