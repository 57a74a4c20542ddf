-- A value and its texts.
use Rattle.std.proofs.Common.{◌≡◌, ℕ, ◌<◌, ◌+◌, ◌^◌, suc, neg_ℤ, Bool, true, false, ℤ, pos, negsuc, List, [], ◌∷◌, ◌++◌, get_or, map, Some, All, Contains, FitsSigned, w64, refl, sym, ap, ◌∙◌, subst, arith}
use Rattle.std.specs.Prelude.{IsUtf8}
use Rattle.std.specs.Fmt.{decimal, signed_decimal}
use Rattle.std.proofs.lemmas.Bool.{ne_eqb}
use Rattle.std.proofs.lemmas.Fmt.{decimal_is_IsNumeral}
use Rattle.std.proofs.lemmas.Str.Parse.{digit_at}
use Rattle.std.proofs.lemmas.Int.{ints}
use Rattle.jiff_core.specs.Calendar.{IsCivilDate}
use Rattle.jiff_core.specs.declared.civil.date.Date.{Date}
use Rattle.jiff_core.proofs.DateLemmas.{epoch_day_injective}
use Rattle.serde_json.specs.Data.{string, array}
use Rattle.serde_json.specs.View.{items_of}
use Rattle.lg_params.specs.declared.kinds.Kind.{Kind}
use Rattle.lg_params.specs.declared.params.Param.{Param}
use Rattle.lg_params.specs.Dates.{year_text, month_text, date_text, IsDateText, SpellsYear, SpellsMonth, SpellsDate, SpellsDateHour, SpellsDateMinute}
use Rattle.lg_params.specs.Kinds.{IsOfKind, HoldsUtf8}
use Rattle.lg_params.specs.Places.{two_digits}
use Rattle.lg_params.specs.Spelling.{SpellsInt, SpellsTruth, SpellsTexts, truth_text, Spells}
use Rattle.lg_params.specs.Writing.{written_truth, IsWritten}
use Rattle.lg_params.proofs.DateLemmas.{day_below}
use Rattle.lg_params.proofs.ListLemmas.{items_same}
use Rattle.lg_params.proofs.ListReading.{EachUtf8, list_read}
use Rattle.lg_params.proofs.PlaceLemmas.{marked_at_end_same, two_at_end_same, four_digits_same}
use Rattle.lg_params.proofs.ReadingLemmas.{month_text_same}

-- ---- a written text is read

decimal_read : (n : ℕ) → n < 2 ^ 64 → SpellsInt (decimal n) (pos n)
decimal_read n small =
    let is = decimal_is_IsNumeral n small in
    let first = digit_at (decimal n) 0 is.0.1 is.0.0 in
    let minus = ne_eqb (get_or (decimal n) 0 0) 45 (λ e. omega arith) in
    let plus = ne_eqb (get_or (decimal n) 0 0) 43 (λ e. omega arith) in
    record { digits = rw (minus, plus) is.0; number = rw (minus, plus) (ap (λ (m : ℕ). pos m) (sym is.1)) }

minus_read : (n : ℕ) → n + 1 < 2 ^ 64 → SpellsInt (45 ∷ decimal (suc n)) (negsuc n)
minus_read n small =
    let is = decimal_is_IsNumeral (suc n) (omega arith) in
    record { digits = is.0; number = ap (λ (m : ℕ). neg_ℤ (pos m)) (sym is.1) }

signed_read : (z : ℤ) → FitsSigned w64 z → SpellsInt (signed_decimal z) z
signed_read (pos n) fits = decimal_read n (omega (arith, ints))
signed_read (negsuc n) fits = minus_read n (omega (arith, ints))

truth_read : (b : Bool) → SpellsTruth (written_truth b) b
truth_read true = refl
truth_read false = refl

each_utf8 : (ts : List (List ℕ)) → All IsUtf8 ts → EachUtf8 ts
each_utf8 [] all = tt
each_utf8 (t ∷ ts) all = (all 0 t (omega arith), each_utf8 ts (λ k d below. all (suc k) d (omega arith)))

pub written_spells : (kind : Kind) (p : Param) (text : List ℕ) → IsOfKind kind p → HoldsUtf8 p → IsWritten p text → Spells kind text p
written_spells Kind.Text p text (value, is) utf8 written = is ∙ ap (λ (t : List ℕ). Param.Text t) (sym (rw is at written))
written_spells Kind.Int p text (n, fits, is) utf8 written =
    (n, subst (λ (t : List ℕ). SpellsInt t n) (sym (rw is at written)) (signed_read n fits), fits, is)
written_spells Kind.Truth p text (b, is) utf8 written =
    (b, subst (λ (t : List ℕ). SpellsTruth t b) (sym (rw is at written)) (truth_read b), is)
written_spells Kind.Date p text (n, is) utf8 written = (n, rw is at written, is)
written_spells Kind.DateHour p text (n, is) utf8 written = (n, rw is at written, is)
written_spells Kind.DateMinute p text (n, is) utf8 written = (n, rw is at written, is)
written_spells Kind.Month p text (n, is) utf8 written = (n, rw is at written, is)
written_spells Kind.Year p text (n, is) utf8 written = (n, rw is at written, is)
written_spells (Kind.Choice choices) p text (value, declared, is) utf8 written =
    let same : text ≡ value = rw is at written in
    (subst (λ (t : List ℕ). Contains choices t) (sym same) declared, is ∙ ap (λ (t : List ℕ). Param.Choice t) (sym same))
written_spells Kind.Texts p text (texts, is) utf8 written =
    (texts, subst (λ (t : List ℕ). SpellsTexts t texts) (sym (rw is at written)) (list_read texts (each_utf8 texts (rw is at utf8))), is)

-- ---- a text is one value

year_one : (text : List ℕ) (n m : ℤ) → SpellsYear text n → SpellsYear text m → n ≡ m
year_one text n m one other =
    let a = one.of_text in
    let b = other.of_text in
    let year = four_digits_same one.year other.year (omega arith) (omega arith) (sym a.spelled ∙ b.spelled) in
    one.number ∙ (ap (λ (y : ℕ). pos y) year ∙ sym other.number)

month_one : (text : List ℕ) (n m : ℤ) → SpellsMonth text n → SpellsMonth text m → n ≡ m
month_one text n m one other =
    let a = one.of_text in
    let b = other.of_text in
    let same = month_text_same one.year one.month other.year other.month a.year_in a.month_in b.year_in b.month_in (sym a.spelled ∙ b.spelled) in
    one.number ∙ (rw (same.0, same.1) (sym other.number))

date_text_same : (text : List ℕ) (y m d y₂ m₂ d₂ : ℕ) → IsDateText text y m d → IsDateText text y₂ m₂ d₂ → (y ≡ y₂) × (m ≡ m₂) × (d ≡ d₂)
date_text_same text y m d y₂ m₂ d₂ a b =
    let ends = marked_at_end_same (month_text y m) (month_text y₂ m₂) 45 d d₂ (day_below y m d a.exists) (day_below y₂ m₂ d₂ b.exists) (sym a.spelled ∙ b.spelled) in
    let month = month_text_same y m y₂ m₂ a.year_in a.exists.1 b.year_in b.exists.1 ends.0 in
    (month.0, month.1, ends.1)

date_one : (text : List ℕ) (n m : ℤ) → SpellsDate text n → SpellsDate text m → n ≡ m
date_one text n m one other =
    let same = date_text_same text one.year one.month one.day other.year other.month other.day one.of_text other.of_text in
    one.number ∙ (rw (same.0, same.1, same.2) (sym other.number))

date_hour_one : (text : List ℕ) (n m : ℤ) → SpellsDateHour text n → SpellsDateHour text m → n ≡ m
date_hour_one text n m one other =
    let ends = marked_at_end_same one.date other.date 84 one.hour other.hour (omega arith) (omega arith) (sym one.spelled ∙ other.spelled) in
    let day = date_one one.date one.day other.day one.of_date (subst (λ (t : List ℕ). SpellsDate t other.day) (sym ends.0) other.of_date) in
    one.number ∙ (rw (day, ends.1) (sym other.number))

date_minute_one : (text : List ℕ) (n m : ℤ) → SpellsDateMinute text n → SpellsDateMinute text m → n ≡ m
date_minute_one text n m one other =
    let ends = two_at_end_same one.date other.date one.minute other.minute (omega arith) (omega arith) (sym one.spelled ∙ other.spelled) in
    let hours = date_hour_one one.date one.hours other.hours one.of_date (subst (λ (t : List ℕ). SpellsDateHour t other.hours) (sym ends.0) other.of_date) in
    one.number ∙ (rw (hours, ends.1) (sym other.number))

truth_one : (b c : Bool) → truth_text b ≡ truth_text c → b ≡ c
truth_one true true e = refl
truth_one true false e = absurd (cc)
truth_one false true e = absurd (cc)
truth_one false false e = refl

strings_same : (ts us : List (List ℕ)) → map string ts ≡ map string us → ts ≡ us
strings_same [] [] e = refl
strings_same [] (u ∷ us) e = absurd (cc)
strings_same (t ∷ ts) [] e = absurd (cc)
strings_same (t ∷ ts) (u ∷ us) e =
    let first : t ≡ u = cc in
    let rest : map string ts ≡ map string us = cc in
    let others = strings_same ts us rest in cc

texts_one : (text : List ℕ) (ts us : List (List ℕ)) → SpellsTexts text ts → SpellsTexts text us → ts ≡ us
texts_one text ts us one other =
    let same : Some (array (items_of (map string ts))) ≡ Some (array (items_of (map string us))) = sym one ∙ other in
    let items : items_of (map string ts) ≡ items_of (map string us) = cc in
    strings_same ts us (items_same (map string ts) (map string us) items)

pub one_value : (kind : Kind) (text : List ℕ) (p q : Param) → Spells kind text p → Spells kind text q → p ≡ q
one_value Kind.Text text p q one other = one ∙ sym other
one_value Kind.Int text p q (n, is, fits, e) (m, are, fit, f) =
    e ∙ (ap (λ (z : ℤ). Param.Int z) (is.number ∙ sym are.number) ∙ sym f)
one_value Kind.Truth text p q (b, is, e) (c, are, f) = e ∙ (ap (λ (t : Bool). Param.Truth t) (truth_one b c (sym is ∙ are)) ∙ sym f)
one_value Kind.Date text p q (n, is, e) (m, are, f) = e ∙ (ap (λ (z : ℤ). Param.Date z) (date_one text n m is are) ∙ sym f)
one_value Kind.DateHour text p q (n, is, e) (m, are, f) = e ∙ (ap (λ (z : ℤ). Param.DateHour z) (date_hour_one text n m is are) ∙ sym f)
one_value Kind.DateMinute text p q (n, is, e) (m, are, f) = e ∙ (ap (λ (z : ℤ). Param.DateMinute z) (date_minute_one text n m is are) ∙ sym f)
one_value Kind.Month text p q (n, is, e) (m, are, f) = e ∙ (ap (λ (z : ℤ). Param.Month z) (month_one text n m is are) ∙ sym f)
one_value Kind.Year text p q (n, is, e) (m, are, f) = e ∙ (ap (λ (z : ℤ). Param.Year z) (year_one text n m is are) ∙ sym f)
one_value (Kind.Choice choices) text p q (declared, e) (also, f) = e ∙ sym f
one_value Kind.Texts text p q (ts, is, e) (us, are, f) = e ∙ (ap (λ (t : List (List ℕ)). Param.Texts t) (texts_one text ts us is are) ∙ sym f)

-- ---- a value has one text

year_text_one : (text other : List ℕ) (n : ℤ) → SpellsYear text n → SpellsYear other n → text ≡ other
year_text_one text other n one two =
    let a = one.of_text in
    let b = two.of_text in
    let year : one.year ≡ two.year = omega (arith, ints, one.number, two.number) in
    a.spelled ∙ (ap (λ (y : ℕ). year_text y) year ∙ sym b.spelled)

month_text_one : (text other : List ℕ) (n : ℤ) → SpellsMonth text n → SpellsMonth other n → text ≡ other
month_text_one text other n one two =
    let a = one.of_text in
    let b = two.of_text in
    let year : one.year ≡ two.year = omega (arith, ints, one.number, two.number) in
    let month : one.month ≡ two.month = omega (arith, ints, one.number, two.number) in
    a.spelled ∙ (ap (λ (t : ℕ × ℕ). month_text t.0 t.1) (cc) ∙ sym b.spelled)

date_of : (y m d : ℕ) → IsCivilDate (pos y) m d → Date
date_of y m d is = record { year = pos y; month = m; day = d; year_in = is.0; month_in = is.1; day_in = is.2 }

date_text_one : (text other : List ℕ) (n : ℤ) → SpellsDate text n → SpellsDate other n → text ≡ other
unfolding date_of
date_text_one text other n one two =
    let a = one.of_text in
    let b = two.of_text in
    let same = epoch_day_injective (date_of one.year one.month one.day a.exists) (date_of two.year two.month two.day b.exists) (sym one.number ∙ two.number) in
    let year : one.year ≡ two.year = omega (arith, ints, same.0) in
    a.spelled ∙ (ap (λ (t : ℕ × ℕ × ℕ). date_text t.0 t.1 t.2) (λ i. (year i, same.1 i, same.2 i)) ∙ sym b.spelled)

date_hour_text_one : (text other : List ℕ) (n : ℤ) → SpellsDateHour text n → SpellsDateHour other n → text ≡ other
date_hour_text_one text other n one two =
    let day : one.day ≡ two.day = omega (arith, ints, one.number, two.number) in
    let hour : one.hour ≡ two.hour = omega (arith, ints, one.number, two.number) in
    let date = date_text_one one.date two.date two.day (subst (λ (z : ℤ). SpellsDate one.date z) day one.of_date) two.of_date in
    one.spelled ∙ (ap (λ (t : List ℕ × ℕ). t.0 ++ 84 ∷ two_digits t.1) (λ i. (date i, hour i)) ∙ sym two.spelled)

date_minute_text_one : (text other : List ℕ) (n : ℤ) → SpellsDateMinute text n → SpellsDateMinute other n → text ≡ other
date_minute_text_one text other n one two =
    let hours : one.hours ≡ two.hours = omega (arith, ints, one.number, two.number) in
    let minute : one.minute ≡ two.minute = omega (arith, ints, one.number, two.number) in
    let date = date_hour_text_one one.date two.date two.hours (subst (λ (z : ℤ). SpellsDateHour one.date z) hours one.of_date) two.of_date in
    one.spelled ∙ (ap (λ (t : List ℕ × ℕ). t.0 ++ two_digits t.1) (λ i. (date i, minute i)) ∙ sym two.spelled)

pub one_text : (p : Param) (text other : List ℕ) → IsWritten p text → IsWritten p other → text ≡ other
one_text (Param.Text value) text other one two = one ∙ sym two
one_text (Param.Int n) text other one two = one ∙ sym two
one_text (Param.Truth b) text other one two = one ∙ sym two
one_text (Param.Date n) text other one two = date_text_one text other n one two
one_text (Param.DateHour n) text other one two = date_hour_text_one text other n one two
one_text (Param.DateMinute n) text other one two = date_minute_text_one text other n one two
one_text (Param.Month n) text other one two = month_text_one text other n one two
one_text (Param.Year n) text other one two = year_text_one text other n one two
one_text (Param.Choice value) text other one two = one ∙ sym two
one_text (Param.Texts texts) text other one two = one ∙ sym two
