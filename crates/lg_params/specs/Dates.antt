-- Dates, months and years as texts (ISO 8601), and their numbers. The calendar is that of `jiff`: it says which days there
-- are, and how many days lie between a date and 1970-01-01.
use Rattle.std.specs.Prelude.{◌≡◌, ℕ, ◌<◌, List, ◌∷◌, ◌++◌, ℤ, pos, ◌+ℤ◌, ◌-ℤ◌, ◌*ℤ◌}
use Rattle.std.specs.Int.{IsInRange}
use Rattle.jiff_core.specs.Calendar.{IsCivilDate, days_from_civil}
use Rattle.lg_params.specs.Places.{two_digits, four_digits}

-- a year that four digits name, from 0001 to 9999
abbrev pub IsNamedYear : ℕ → Type 0
IsNamedYear year = IsInRange 1 9999 year

abbrev pub IsMonth : ℕ → Type 0
IsMonth month = IsInRange 1 12 month

-- YYYY
abbrev pub year_text : ℕ → List ℕ
year_text year = four_digits year

-- YYYY-MM
abbrev pub month_text : ℕ → ℕ → List ℕ
month_text year month = year_text year ++ 45 ∷ two_digits month

-- YYYY-MM-DD
abbrev pub date_text : ℕ → ℕ → ℕ → List ℕ
date_text year month day = month_text year month ++ 45 ∷ two_digits day

-- the months from January 1970
abbrev pub month_number : ℕ → ℕ → ℤ
month_number year month = (pos year -ℤ pos 1970) *ℤ pos 12 +ℤ (pos month -ℤ pos 1)

pub record IsYearText (text : List ℕ) (year : ℕ) : Type 0 where
  pub year_in : IsNamedYear year
  pub spelled : text ≡ year_text year

pub record IsMonthText (text : List ℕ) (year month : ℕ) : Type 0 where
  pub year_in : IsNamedYear year
  pub month_in : IsMonth month
  pub spelled : text ≡ month_text year month

-- the calendar has the day
pub record IsDateText (text : List ℕ) (year month day : ℕ) : Type 0 where
  pub year_in : IsNamedYear year
  pub exists : IsCivilDate (pos year) month day
  pub spelled : text ≡ date_text year month day

-- the text names the year
pub record SpellsYear (text : List ℕ) (n : ℤ) : Type 0 where
  pub year : ℕ
  pub of_text : IsYearText text year
  pub number : n ≡ pos year

-- the text names the month that is so many months from January 1970
pub record SpellsMonth (text : List ℕ) (n : ℤ) : Type 0 where
  pub year : ℕ
  pub month : ℕ
  pub of_text : IsMonthText text year month
  pub number : n ≡ month_number year month

-- the text names the day that is so many days from 1970-01-01
pub record SpellsDate (text : List ℕ) (n : ℤ) : Type 0 where
  pub year : ℕ
  pub month : ℕ
  pub day : ℕ
  pub of_text : IsDateText text year month day
  pub number : n ≡ days_from_civil (pos year) month day

-- a date, `T` and two digits: the hour that is so many hours from 1970-01-01T00
pub record SpellsDateHour (text : List ℕ) (n : ℤ) : Type 0 where
  pub date : List ℕ
  pub day : ℤ
  pub hour : ℕ
  pub of_date : SpellsDate date day
  pub hour_in : hour < 24
  pub spelled : text ≡ date ++ 84 ∷ two_digits hour
  pub number : n ≡ day *ℤ pos 24 +ℤ pos hour

-- a date with its hour and two digits: the minute that is so many minutes from 1970-01-01T0000
pub record SpellsDateMinute (text : List ℕ) (n : ℤ) : Type 0 where
  pub date : List ℕ
  pub hours : ℤ
  pub minute : ℕ
  pub of_date : SpellsDateHour date hours
  pub minute_in : minute < 60
  pub spelled : text ≡ date ++ two_digits minute
  pub number : n ≡ hours *ℤ pos 60 +ℤ pos minute
