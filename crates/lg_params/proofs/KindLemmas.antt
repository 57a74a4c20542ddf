-- From the search for a value to the answer, and which values are spelled.
use Rattle.std.proofs.Common.{◌≡◌, ℕ, List, [], ◌∷◌, ℤ, Bool, true, ◌&&◌, Option, Some, None, Result, MatchOption, ok_or, inl, arith, refl, ap, sym, ◌∙◌}
use Rattle.std.specs.Char.{is_ascii_digit}
use Rattle.std.specs.List.{list_all}
use Rattle.std.specs.Option.{IsSomeAnd}
use Rattle.std.specs.Str.{all_ascii_digits}
use Rattle.std.specs.Str.Parse.{AllDigits, digits_value}
use Rattle.std.proofs.lemmas.Str.Parse.{IsNumeralModel, numerals_by_value, tells_all_ascii_digits}
use Rattle.std.proofs.lemmas.Int.{ints}
use Rattle.lg_params.specs.declared.fault.ReadFault.{ReadFault}
use Rattle.lg_params.specs.declared.kinds.Kind.{Kind}
use Rattle.lg_params.specs.declared.params.Param.{Param}
use Rattle.lg_params.specs.Dates.{SpellsDateHour, SpellsDateMinute, SpellsMonth}
use Rattle.lg_params.specs.Finds.{Finds}
use Rattle.lg_params.specs.Ranges.{IsHour, IsMinute, IsMonthNumber, IsWritable}
use Rattle.lg_params.specs.Refusing.{Answers, SpellsNothing, IsBadText, IsNoChoice, IsPast64Bits}
use Rattle.lg_params.specs.Spelling.{Spells}
use Rattle.lg_params.proofs.DateLemmas.{day_in_range}

all_digits_same : (ds : List ℕ) → list_all is_ascii_digit ds ≡ all_ascii_digits ds
all_digits_same [] = refl
all_digits_same (d ∷ ds) = ap (λ (b : Bool). is_ascii_digit d && b) (all_digits_same ds)

digits : IsNumeralModel (λ ds. all_ascii_digits ds ≡ true) (digits_value 10)
digits = numerals_by_value (λ ds. all_ascii_digits ds ≡ true) tells_all_ascii_digits

pub all_digits_told : (ds : List ℕ) → list_all is_ascii_digit ds ≡ true → AllDigits 10 ds
all_digits_told ds e = digits.to ds (sym (all_digits_same ds) ∙ e)

pub all_digits_tell : (ds : List ℕ) → AllDigits 10 ds → list_all is_ascii_digit ds ≡ true
all_digits_tell ds is = all_digits_same ds ∙ digits.from ds is

-- a kind whose one refusal is of the text
pub record IsPlain (kind : Kind) (text : List ℕ) : Type 0 where
  pub bad : SpellsNothing kind text → IsBadText kind text
  pub nothing : IsBadText kind text → SpellsNothing kind text
  pub no_choice : ¬ IsNoChoice kind text
  pub in_range : ¬ IsPast64Bits kind text

-- what a search found is the answer
pub found_answers : {V : Type 0} (P : V → Type 0) (make : V → Param) (kind : Kind) (text : List ℕ) (o : Option V) (q : Option Param) (r : Result Param ReadFault) → IsPlain kind text → ((v : V) → P v → Spells kind text (make v)) → ((p : Param) → Spells kind text p → (v : V) × P v) → Finds P o → MatchOption o (q ≡ None) (λ x. IsSomeAnd q (λ p. p ≡ make x)) → r ≡ ok_or q ReadFault.BadText → Answers kind text r
found_answers P make kind text (Some v) (Some p) r plain spells back found made e =
    rw (e, made) (record {
      value = spells v found;
      spelled = λ _ _. tt;
      bad_text = λ told. absurd (cc);
      bad_text_told = λ bad. absurd (plain.nothing bad (make v) (spells v found));
      no_choice = (λ told. absurd (cc), λ none. absurd (plain.no_choice none));
      out_of_range = (λ told. absurd (cc), λ out. absurd (plain.in_range out));
      memory = λ told. absurd (cc);
    })
found_answers P make kind text (Some v) None r plain spells back found made e = absurd made
found_answers P make kind text None q r plain spells back none made e =
    let nothing : SpellsNothing kind text = λ p is. none (back p is).0 (back p is).1 in
    rw (e, made) (record {
      value = tt;
      spelled = λ p is. absurd (nothing p is);
      bad_text = λ told. plain.bad nothing;
      bad_text_told = λ bad. inl refl;
      no_choice = (λ told. absurd (cc), λ choice. absurd (plain.no_choice choice));
      out_of_range = (λ told. absurd (cc), λ out. absurd (plain.in_range out));
      memory = λ told. absurd (cc);
    })

-- the years of what is spelled
pub hour_in_range : (text : List ℕ) (n : ℤ) → SpellsDateHour text n → IsHour n
hour_in_range text n is =
    let date = is.of_date in
    let text = date.of_text in
    let day = day_in_range date.year date.month date.day text.year_in text.exists in
    (omega (arith, ints, day, date.number, is.number), omega (arith, ints, day, date.number, is.number))

pub minute_in_range : (text : List ℕ) (n : ℤ) → SpellsDateMinute text n → IsMinute n
minute_in_range text n is =
    let hour = hour_in_range is.date is.hours is.of_date in
    (omega (arith, ints, hour, is.number), omega (arith, ints, hour, is.number))

pub month_in_range : (text : List ℕ) (n : ℤ) → SpellsMonth text n → IsMonthNumber n
month_in_range text n is =
    let text = is.of_text in
    (omega (arith, ints, is.number), omega (arith, ints, is.number))

pub writable : (kind : Kind) (text : List ℕ) (p : Param) → Spells kind text p → IsWritable p
writable Kind.Text text p is = rw is tt
writable Kind.Int text p is = rw is.3 tt
writable Kind.Truth text p is = rw is.2 tt
writable Kind.Date text p is =
    let text = is.1.of_text in
    rw (is.2, is.1.number) (day_in_range is.1.year is.1.month is.1.day text.year_in text.exists)
writable Kind.DateHour text p is = rw is.2 (hour_in_range text is.0 is.1)
writable Kind.DateMinute text p is = rw is.2 (minute_in_range text is.0 is.1)
writable Kind.Month text p is = rw is.2 (month_in_range text is.0 is.1)
writable Kind.Year text p is =
    let text = is.1.of_text in rw is.2 (omega (arith, ints, is.1.number), omega (arith, ints, is.1.number))
writable (Kind.Choice choices) text p is = rw is.1 tt
writable Kind.Texts text p is = rw is.2 tt
