-- What the parts of a date's text say of the whole.
use Rattle.std.proofs.Common.{◌≡◌, ℕ, ◌<◌, ℤ, pos, ◌+ℤ◌, ◌*ℤ◌, List, ◌∷◌, ◌++◌, Option, Some, None, MatchOption, arith, sym, ◌∙◌, ap}
use Rattle.jiff_core.specs.Calendar.{IsCivilDate, days_from_civil}
use Rattle.lg_params.specs.Dates.{IsNamedYear, IsMonth, year_text, month_text, IsMonthText, IsDateText, SpellsDate, SpellsDateHour, SpellsDateMinute}
use Rattle.lg_params.specs.Finds.{Finds}
use Rattle.lg_params.specs.Places.{two_digits}
use Rattle.lg_params.proofs.DateLemmas.{day_below}
use Rattle.lg_params.proofs.PlaceLemmas.{marked_at_end_same, four_digits_same}

-- a text names one month
pub month_text_same : (y m y₂ m₂ : ℕ) → IsNamedYear y → IsMonth m → IsNamedYear y₂ → IsMonth m₂ → month_text y m ≡ month_text y₂ m₂ → (y ≡ y₂) × (m ≡ m₂)
month_text_same y m y₂ m₂ year month year₂ month₂ e =
    let same = marked_at_end_same (year_text y) (year_text y₂) 45 m m₂ (omega arith) (omega arith) e in
    (four_digits_same y y₂ (omega arith) (omega arith) same.0, same.1)

pub date_whole : (text front : List ℕ) (y m d : ℕ) → IsMonthText front y m → IsCivilDate (pos y) m d → text ≡ front ++ 45 ∷ two_digits d → IsDateText text y m d
date_whole text front y m d is exists whole =
    record { year_in = is.year_in; exists = exists; spelled = whole ∙ ap (λ (t : List ℕ). t ++ 45 ∷ two_digits d) is.spelled }

-- a text of a month, with a day behind it
pub date_found : (text front : List ℕ) (y m d : ℕ) (r : Option ℤ) → IsMonthText front y m → d < 100 → text ≡ front ++ 45 ∷ two_digits d → MatchOption r (¬ IsCivilDate (pos y) m d) (λ n. IsCivilDate (pos y) m d × (n ≡ days_from_civil (pos y) m d)) → Finds (SpellsDate text) r
date_found text front y m d (Some n) is small whole found =
    record { year = y; month = m; day = d; number = found.1; of_text = date_whole text front y m d is found.0 whole }
date_found text front y m d None is small whole none = λ n spells.
    let other = spells.of_text in
    let same = marked_at_end_same front (month_text spells.year spells.month) 45 d spells.day small (day_below _ _ _ other.exists) (sym whole ∙ other.spelled) in
    let month = month_text_same y m spells.year spells.month is.year_in is.month_in other.year_in other.exists.1 (sym is.spelled ∙ same.0) in
    none (rw (month.0, month.1, same.1) other.exists)

pub date_hour_whole : (text date : List ℕ) (day n : ℤ) (hour : ℕ) → SpellsDate date day → hour < 24 → text ≡ date ++ 84 ∷ two_digits hour → n ≡ day *ℤ pos 24 +ℤ pos hour → SpellsDateHour text n
date_hour_whole text date day n hour of_date hour_in spelled number =
    record { date = date; day = day; hour = hour; of_date = of_date; hour_in = hour_in; spelled = spelled; number = number }

pub date_minute_whole : (text date : List ℕ) (hours n : ℤ) (minute : ℕ) → SpellsDateHour date hours → minute < 60 → text ≡ date ++ two_digits minute → n ≡ hours *ℤ pos 60 +ℤ pos minute → SpellsDateMinute text n
date_minute_whole text date hours n minute of_date minute_in spelled number =
    record { date = date; hours = hours; minute = minute; of_date = of_date; minute_in = minute_in; spelled = spelled; number = number }
