-- The values that have a text: those of the years 0001 to 9999. The numbers are counted from 1970, as in `Dates`.
use Rattle.std.specs.Prelude.{ℤ, pos, negsuc}
use Rattle.jiff_core.specs.Calendar.{IsBetween}
use Rattle.lg_params.specs.declared.params.Param.{Param}

-- from 0001-01-01 to 9999-12-31
abbrev pub IsDay : ℤ → Type 0
IsDay n = IsBetween (negsuc 719_161) (pos 2_932_896) n

-- from 0001-01-01T00 to 9999-12-31T23
abbrev pub IsHour : ℤ → Type 0
IsHour n = IsBetween (negsuc 17_259_887) (pos 70_389_527) n

-- from 0001-01-01T0000 to 9999-12-31T2359
abbrev pub IsMinute : ℤ → Type 0
IsMinute n = IsBetween (negsuc 1_035_593_279) (pos 4_223_371_679) n

-- from 0001-01 to 9999-12
abbrev pub IsMonthNumber : ℤ → Type 0
IsMonthNumber n = IsBetween (negsuc 23_627) (pos 96_359) n

abbrev pub IsYearNumber : ℤ → Type 0
IsYearNumber n = IsBetween (pos 1) (pos 9999) n

-- a value of a date kind lies in those years
abbrev pub IsWritable : Param → Type 0
IsWritable (Param.Date n) = IsDay n
IsWritable (Param.DateHour n) = IsHour n
IsWritable (Param.DateMinute n) = IsMinute n
IsWritable (Param.Month n) = IsMonthNumber n
IsWritable (Param.Year n) = IsYearNumber n
IsWritable _ = Unit {0}
