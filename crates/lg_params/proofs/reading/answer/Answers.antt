use Rattle.std.proofs.Common.{refl}
use Rattle.lg_params.specs.declared.kinds.Kind.{Kind}
use Rattle.lg_params.specs.declared.params.Param.{Param}
use Rattle.lg_params.specs.Dates.{SpellsDate, SpellsDateHour, SpellsDateMinute, SpellsMonth, SpellsYear}
use Rattle.lg_params.specs.Spelling.{SpellsTruth}
use Rattle.lg_params.proofs.KindLemmas.{found_answers}
use Rattle.lg_params.proofs.reading.answer.Goals as goal

pub returns-in-Truth : goal.returns-in-Truth
returns-in-Truth c =
    rw c.in-Truth.is (found_answers (SpellsTruth c.args.text.now) Param.Truth Kind.Truth c.args.text.now c.read_truth.result _ _
    (record { bad = λ h. h; nothing = λ h. h; no_choice = λ h. h; in_range = λ h. h })
    (λ v is. (v, is, refl)) (λ p is. (is.0, is.1)) (rw c.as_str-in-Truth.ensures.same at c.read_truth.ensures) c.map.ensures.cases c.value_of.ensures)

pub returns-in-Date : goal.returns-in-Date
returns-in-Date c =
    rw c.in-Date.is (found_answers (SpellsDate c.args.text.now) Param.Date Kind.Date c.args.text.now c.read_date.result _ _
    (record { bad = λ h. h; nothing = λ h. h; no_choice = λ h. h; in_range = λ h. h })
    (λ v is. (v, is, refl)) (λ p is. (is.0, is.1)) (rw c.bytes.ensures at c.read_date.ensures.found) c.map-in-Date.ensures.cases c.value_of-in-Date.ensures)

pub returns-in-DateHour : goal.returns-in-DateHour
returns-in-DateHour c =
    rw c.in-DateHour.is (found_answers (SpellsDateHour c.args.text.now) Param.DateHour Kind.DateHour c.args.text.now c.read_date_hour.result _ _
    (record { bad = λ h. h; nothing = λ h. h; no_choice = λ h. h; in_range = λ h. h })
    (λ v is. (v, is, refl)) (λ p is. (is.0, is.1)) (rw c.bytes-in-DateHour.ensures at c.read_date_hour.ensures.found) c.map-in-DateHour.ensures.cases c.value_of-in-DateHour.ensures)

pub returns-in-DateMinute : goal.returns-in-DateMinute
returns-in-DateMinute c =
    rw c.in-DateMinute.is (found_answers (SpellsDateMinute c.args.text.now) Param.DateMinute Kind.DateMinute c.args.text.now c.read_date_minute.result _ _
    (record { bad = λ h. h; nothing = λ h. h; no_choice = λ h. h; in_range = λ h. h })
    (λ v is. (v, is, refl)) (λ p is. (is.0, is.1)) (rw c.bytes-in-DateMinute.ensures at c.read_date_minute.ensures) c.map-in-DateMinute.ensures.cases c.value_of-in-DateMinute.ensures)

pub returns-in-Month : goal.returns-in-Month
returns-in-Month c =
    rw c.in-Month.is (found_answers (SpellsMonth c.args.text.now) Param.Month Kind.Month c.args.text.now c.read_month.result _ _
    (record { bad = λ h. h; nothing = λ h. h; no_choice = λ h. h; in_range = λ h. h })
    (λ v is. (v, is, refl)) (λ p is. (is.0, is.1)) (rw c.bytes-in-Month.ensures at c.read_month.ensures) c.map-in-Month.ensures.cases c.value_of-in-Month.ensures)

pub returns-in-Year : goal.returns-in-Year
returns-in-Year c =
    rw c.in-Year.is (found_answers (SpellsYear c.args.text.now) Param.Year Kind.Year c.args.text.now c.read_year.result _ _
    (record { bad = λ h. h; nothing = λ h. h; no_choice = λ h. h; in_range = λ h. h })
    (λ v is. (v, is, refl)) (λ p is. (is.0, is.1)) (rw c.bytes-in-Year.ensures at c.read_year.ensures) c.map-in-Year.ensures.cases c.value_of-in-Year.ensures)
