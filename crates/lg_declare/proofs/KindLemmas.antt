-- The test of a kind says what `lg_params` reads.
use Rattle.std.proofs.Common.{◌≡◌, ◌≢◌, ℕ, zero, suc, ◌+◌, ◌^◌, ◌<◌, ◌≤◌, ◌==◌, ◌+ℤ◌, ◌*ℤ◌, get_or, ◌||◌, not, Bool, true, false, List, [], ◌∷◌, ◌++◌, length, map, codes, Option, Some, None, Result, Ok, Err, ℤ, pos, negsuc, Contains, FitsSigned, refl, sym, ap, ◌∙◌, subst, arith, inl, inr}
use Rattle.std.specs.Bool.{Decides}
use Rattle.std.specs.Prelude.{IfOk, IsOkUnless, MatchOption}
use Rattle.std.specs.Result.{result_err}
use Rattle.std.specs.Int.{w64}
use Rattle.std.specs.Str.{all_ascii_digits, bytes_eq, str_to_ascii_lowercase}
use Rattle.std.specs.Str.Parse.{IsNumeral, without_leading_sign, signed_digits_value, digits_value}
use Rattle.std.proofs.lemmas.Bool.{and_parts, cases_Bool, false≢true}
use Rattle.std.proofs.lemmas.Bool.Decides.{nat_tests, Decides-eqb, Decides-ltb}
use Rattle.std.proofs.lemmas.Int.{ints}
use Rattle.std.proofs.lemmas.Slice.Eq.{bytes_eq-Decides}
use Rattle.std.proofs.lemmas.Str.Parse.{IsNumeralModel, numerals_by_value, tells_all_ascii_digits}
use Rattle.jiff_core.specs.Calendar.{IsYear, days_in_month, days_from_civil}
use Rattle.serde_json.specs.Data.{Data, null, boolean, number, string, array, object, Items, no_items, item}
use Rattle.serde_json.specs.Read.{read}
use Rattle.serde_json.specs.View.{items_of}
use Rattle.lg_params.specs.Dates.{year_text, month_text, date_text, month_number, SpellsYear, SpellsMonth, SpellsDate, SpellsDateHour, SpellsDateMinute}
use Rattle.lg_params.specs.Places.{two_digits}
use Rattle.lg_params.specs.Spelling.{Spells, SpellsInt, SpellsTruth, SpellsTexts}
use Rattle.lg_params.specs.declared.kinds.Kind.{Kind}
use Rattle.lg_params.specs.declared.params.Param.{Param}
use Rattle.lg_params.specs.declared.fault.ReadFault.{ReadFault}
use Rattle.lg_declare.proofs.DeclaringLemmas.{gives, refuses, no_memory}
use Rattle.lg_declare.specs.Declaring.{Answers, Faults}
use Rattle.lg_declare.specs.Reading.{ensured}
use Rattle.lg_declare.specs.declared.declare_fault.DeclareFault.{DeclareFault}
use Rattle.lg_declare.specs.declared.declare_fault.DeclareFault.TheVariants.{BadValue, NoMemory}
use Rattle.lg_declare.specs.Kinds.{some_of, fits_64_bits, is_numeral, is_int, is_truth, is_year, is_month, is_dated, is_hour_of, is_minute_of, are_strings, is_text_list, are_texts, reads}
use Rattle.lg_declare.specs.Template.{is_among}

-- a number of those from the first on, of which this holds
pub record SomeOf (first count : ℕ) (P : ℕ → Type 0) : Type 0 where
  pub n : ℕ
  pub low : first ≤ n
  pub high : n < first + count
  pub holds : P n

-- a year that four digits name is one of the calendar's
named_year : (year : ℕ) → year ≤ 9999 → IsYear (pos year)
named_year year below = (omega (arith, ints), omega (arith, ints, below))

list_some : (first count : ℕ) (test : ℕ → Bool) (P : ℕ → Type 0) → ((n : ℕ) → Decides (test n) (P n))
    → some_of first count test ≡ true → SomeOf first count P
list_some first zero test P decides holds = absurd (false≢true holds)
list_some first (suc count) test P decides holds =
    elim (cases_Bool (test first)) [
      | inl here ↦ record { n = first; low = omega arith; high = omega arith; holds = (decides first).0 here }
      | inr other ↦
          let later = list_some (first + 1) count test P decides (sym (ap (λ b. b || some_of (first + 1) count test) other) ∙ holds) in
          record { n = later.n; low = omega (arith, later.low); high = omega (arith, later.high); holds = later.holds }
    ]

some_list : (first count : ℕ) (test : ℕ → Bool) (P : ℕ → Type 0) → ((n : ℕ) → Decides (test n) (P n)) → SomeOf first count P
    → some_of first count test ≡ true
some_list first zero test P decides some = absurd (omega (arith, some.low, some.high))
some_list first (suc count) test P decides some =
    elim (cases_Bool (test first)) [
      | inl here ↦ rw here refl
      | inr other ↦ rw other
          (some_list (first + 1) count test P decides (record {
            n = some.n;
            low = elim (cases_Bool (first == some.n)) [
              | inl same ↦ absurd (false≢true (sym other ∙ ap test ((Decides-eqb first some.n).0 same) ∙ (decides some.n).1 some.holds))
              | inr differs ↦ let ne : first ≡ some.n → ⊥ = λ e. false≢true (sym differs ∙ (Decides-eqb first some.n).1 e) in omega (arith, some.low)
            ];
            high = omega (arith, some.high);
            holds = some.holds;
          }))
    ]

some_decides : (first count : ℕ) (test : ℕ → Bool) (P : ℕ → Type 0) → ((n : ℕ) → Decides (test n) (P n)) → Decides (some_of first count test) (SomeOf first count P)
some_decides first count test P decides = (list_some first count test P decides, some_list first count test P decides)

-- ---- years, months, days

year_decides : (text : List ℕ) → Decides (is_year text) ((n : ℤ) × SpellsYear text n)
unfolding is_year
year_decides text =
    let d = some_decides 1 9999 _ (λ year. text ≡ year_text year) (λ year. bytes_eq-Decides text (year_text year)) in (
      λ holds. let y = d.0 holds in (pos y.n, record { year = y.n; of_text = record { year_in = (y.low, omega (arith, y.high)); spelled = y.holds }; number = refl }),
      λ is. d.1 (record { n = is.1.year; low = is.1.of_text.year_in.0; high = omega (arith, is.1.of_text.year_in.1); holds = is.1.of_text.spelled }),
    )

month_decides : (text : List ℕ) → Decides (is_month text) ((n : ℤ) × SpellsMonth text n)
unfolding is_month
month_decides text =
    let d = some_decides 1 9999 _ (λ year. SomeOf 1 12 (λ month. text ≡ month_text year month))
    (λ year. some_decides 1 12 _ (λ month. text ≡ month_text year month) (λ month. bytes_eq-Decides text (month_text year month))) in (
      λ holds. let y = d.0 holds in let m = y.holds in
          (month_number y.n m.n, record { year = y.n; month = m.n; of_text = record { year_in = (y.low, omega (arith, y.high)); month_in = (m.low, omega (arith, m.high)); spelled = m.holds }; number = refl }),
      λ is. let t = is.1.of_text in
          d.1 (record {
            n = is.1.year;
            low = t.year_in.0;
            high = omega (arith, t.year_in.1);
            holds = record { n = is.1.month; low = t.month_in.0; high = omega (arith, t.month_in.1); holds = t.spelled };
          }),
    )

-- a date, and what is said of its text
pub record Dated (P : List ℕ → Type 0) : Type 0 where
  pub date : List ℕ
  pub day : ℤ
  pub of_date : SpellsDate date day
  pub holds : P date

dated_decides : (test : List ℕ → Bool) (P : List ℕ → Type 0) → ((date : List ℕ) → Decides (test date) (P date)) → Decides (is_dated test) (Dated P)
unfolding is_dated
dated_decides test P decides =
    let d = some_decides 1 9999 _ (λ year. SomeOf 1 12 (λ month. SomeOf 1 (days_in_month (pos year) month) (λ day. P (date_text year month day))))
    (λ year. some_decides 1 12 _ (λ month. SomeOf 1 (days_in_month (pos year) month) (λ day. P (date_text year month day)))
    (λ month. some_decides 1 (days_in_month (pos year) month) _ (λ day. P (date_text year month day)) (λ day. decides (date_text year month day)))) in (
      λ holds. let y = d.0 holds in let m = y.holds in let k = m.holds in
          record {
            date = date_text y.n m.n k.n;
            day = days_from_civil (pos y.n) m.n k.n;
            of_date = record {
              year = y.n;
              month = m.n;
              day = k.n;
              of_text = record {
                year_in = (y.low, omega (arith, y.high));
                exists = (named_year y.n (omega (arith, y.high)), (m.low, omega (arith, m.high)), (k.low, omega (arith, k.high)));
                spelled = refl;
              };
              number = refl;
            };
            holds = k.holds;
          },
      λ is. let o = is.of_date in let t = o.of_text in
          d.1 (record {
            n = o.year;
            low = t.year_in.0;
            high = omega (arith, t.year_in.1);
            holds = record {
              n = o.month;
              low = t.exists.1.0;
              high = omega (arith, t.exists.1.1);
              holds = record { n = o.day; low = t.exists.2.0; high = omega (arith, t.exists.2.1); holds = subst P t.spelled is.holds };
            };
          }),
    )

date_decides : (text : List ℕ) → Decides (is_dated (bytes_eq text)) ((n : ℤ) × SpellsDate text n)
date_decides text =
    let d = dated_decides (bytes_eq text) (λ date. text ≡ date) (λ date. bytes_eq-Decides text date) in (
      λ holds. let is = d.0 holds in let P : List ℕ → Type 0 = λ date. SpellsDate date is.day in (is.day, subst P (sym is.holds) is.of_date),
      λ is. d.1 (record { date = text; day = is.0; of_date = is.1; holds = refl }),
    )

hour_of : (text date : List ℕ) → Decides (is_hour_of text date) (SomeOf 0 24 (λ hour. text ≡ date ++ 84 ∷ two_digits hour))
unfolding is_hour_of
hour_of text date = some_decides 0 24 _ (λ hour. text ≡ date ++ 84 ∷ two_digits hour) (λ hour. bytes_eq-Decides text (date ++ 84 ∷ two_digits hour))

hour_decides : (text : List ℕ) → Decides (is_dated (is_hour_of text)) ((n : ℤ) × SpellsDateHour text n)
hour_decides text =
    let d = dated_decides (is_hour_of text) (λ date. SomeOf 0 24 (λ hour. text ≡ date ++ 84 ∷ two_digits hour)) (hour_of text) in (
      λ holds. let is = d.0 holds in let h = is.holds in
          (is.day *ℤ pos 24 +ℤ pos h.n, record { date = is.date; day = is.day; hour = h.n; of_date = is.of_date; hour_in = h.high; spelled = h.holds; number = refl }),
      λ is. let o = is.1 in d.1 (record { date = o.date; day = o.day; of_date = o.of_date; holds = record { n = o.hour; low = omega arith; high = o.hour_in; holds = o.spelled } }),
    )

minute_of : (text date : List ℕ) → Decides (is_minute_of text date) (SomeOf 0 24 (λ hour. SomeOf 0 60 (λ minute. text ≡ (date ++ 84 ∷ two_digits hour) ++ two_digits minute)))
unfolding is_minute_of
minute_of text date =
    some_decides 0 24 _ (λ hour. SomeOf 0 60 (λ minute. text ≡ (date ++ 84 ∷ two_digits hour) ++ two_digits minute))
    (λ hour. some_decides 0 60 _ (λ minute. text ≡ (date ++ 84 ∷ two_digits hour) ++ two_digits minute)
    (λ minute. bytes_eq-Decides text ((date ++ 84 ∷ two_digits hour) ++ two_digits minute)))

minute_decides : (text : List ℕ) → Decides (is_dated (is_minute_of text)) ((n : ℤ) × SpellsDateMinute text n)
minute_decides text =
    let d = dated_decides (is_minute_of text) (λ date. SomeOf 0 24 (λ hour. SomeOf 0 60 (λ minute. text ≡ (date ++ 84 ∷ two_digits hour) ++ two_digits minute))) (minute_of text) in (
      λ holds. let is = d.0 holds in let h = is.holds in let m = h.holds in (
        (is.day *ℤ pos 24 +ℤ pos h.n) *ℤ pos 60 +ℤ pos m.n,
        record {
          date = is.date ++ 84 ∷ two_digits h.n;
          hours = is.day *ℤ pos 24 +ℤ pos h.n;
          minute = m.n;
          of_date = record { date = is.date; day = is.day; hour = h.n; of_date = is.of_date; hour_in = h.high; spelled = refl; number = refl };
          minute_in = m.high;
          spelled = m.holds;
          number = refl;
        },
      ),
      λ is. let o = is.1 in let h = o.of_date in
          d.1 (record {
            date = h.date;
            day = h.day;
            of_date = h.of_date;
            holds = record {
              n = h.hour;
              low = omega arith;
              high = h.hour_in;
              holds = record { n = o.minute; low = omega arith; high = o.minute_in; holds = o.spelled ∙ ap (λ front. front ++ two_digits o.minute) h.spelled };
            };
          }),
    )

-- ---- numbers, truth values, choices and lists

digits : IsNumeralModel (λ ds. all_ascii_digits ds ≡ true) (digits_value 10)
digits = numerals_by_value (λ ds. all_ascii_digits ds ≡ true) tells_all_ascii_digits

numeral_decides : (ds : List ℕ) → Decides (is_numeral ds) (IsNumeral 10 ds)
numeral_decides ds = (
  λ holds. let p = and_parts (not (length ds == 0)) (all_ascii_digits ds) holds in (grind (arith, nat_tests, p.0), digits.to ds p.1),
  λ is. let some : not (length ds == 0) ≡ true = grind (arith, nat_tests, is.0) in rw (some, digits.from ds is.1) refl,
)

fits_decides : (n : ℤ) → Decides (fits_64_bits n) (FitsSigned w64 n)
fits_decides (pos n) = (λ holds. record { sfits = (Decides-ltb n (2 ^ 63)).0 holds }, λ is. (Decides-ltb n (2 ^ 63)).1 is.sfits)
fits_decides (negsuc n) = (λ holds. record { sfits = (Decides-ltb n (2 ^ 63)).0 holds }, λ is. (Decides-ltb n (2 ^ 63)).1 is.sfits)

int_decides : (text : List ℕ) → Decides (is_int text) ((n : ℤ) × SpellsInt text n × FitsSigned w64 n)
unfolding is_int
int_decides text = (
  λ holds.
      let p = and_parts (is_numeral (without_leading_sign text)) (fits_64_bits (signed_digits_value 10 text)) holds in
      (signed_digits_value 10 text, record { digits = (numeral_decides (without_leading_sign text)).0 p.0; number = refl }, (fits_decides (signed_digits_value 10 text)).0 p.1),
  λ is.
      let fits = subst (FitsSigned w64) is.1.number is.2 in
      rw ((numeral_decides (without_leading_sign text)).1 is.1.digits, (fits_decides (signed_digits_value 10 text)).1 fits) refl,
)

truth_decides : (text : List ℕ) → Decides (is_truth text) ((b : Bool) × SpellsTruth text b)
unfolding is_truth
truth_decides text =
    let lower = str_to_ascii_lowercase text in (
      λ holds. elim (cases_Bool (bytes_eq lower (codes "true"))) [
        | inl here ↦ (true, (bytes_eq-Decides lower (codes "true")).0 here)
        | inr other ↦ (false, (bytes_eq-Decides lower (codes "false")).0 (sym (ap (λ b. b || bytes_eq lower (codes "false")) other) ∙ holds))
      ],
      λ is. told is.0 is.1,
    )
  where
    told : (b : Bool) → SpellsTruth text b → (bytes_eq (str_to_ascii_lowercase text) (codes "true") || bytes_eq (str_to_ascii_lowercase text) (codes "false")) ≡ true
    told true is = rw ((bytes_eq-Decides (str_to_ascii_lowercase text) (codes "true")).1 is) refl
    told false is = elim (cases_Bool (bytes_eq (str_to_ascii_lowercase text) (codes "true"))) [
      | inl here ↦ rw here refl
      | inr other ↦ rw (other, (bytes_eq-Decides (str_to_ascii_lowercase text) (codes "false")).1 is) refl
    ]

among_at : (choices : List (List ℕ)) (text : List ℕ) (k : ℕ) → k < length choices → get_or choices k text ≡ text → is_among choices text ≡ true
among_at [] text k lt is = absurd (omega (arith, lt))
among_at (c ∷ cs) text zero lt is = rw ((bytes_eq-Decides c text).1 is) refl
among_at (c ∷ cs) text (suc k) lt is = elim (cases_Bool (bytes_eq c text)) [
  | inl here ↦ rw here refl
  | inr other ↦ rw (other, among_at cs text k (omega (arith, lt)) is) refl
]

choice_decides : (choices : List (List ℕ)) (text : List ℕ) → Decides (is_among choices text) (Contains choices text)
choice_decides [] text = (λ holds. absurd (false≢true holds), λ is. absurd (omega (arith, is.1)))
choice_decides (c ∷ cs) text = (
  λ holds. elim (cases_Bool (bytes_eq c text)) [
    | inl here ↦ (0, omega arith, (bytes_eq-Decides c text).0 here)
    | inr other ↦
        let later = (choice_decides cs text).0 (sym (ap (λ b. b || is_among cs text) other) ∙ holds) in
        (suc later.0, omega (arith, later.1), later.2)
  ],
  λ is. among_at (c ∷ cs) text is.0 is.1 is.2,
)

-- the texts of strings
strings : Items → List (List ℕ)
strings no_items = []
strings (item (string text) ds) = text ∷ strings ds
strings (item d ds) = strings ds

all_strings : (ds : Items) → are_strings ds ≡ true → ds ≡ items_of (map string (strings ds))
unfolding strings
all_strings no_items holds = refl
all_strings (item (string text) ds) holds = ap (item (string text)) (all_strings ds holds)
all_strings (item null ds) holds = absurd (false≢true holds)
all_strings (item (boolean b) ds) holds = absurd (false≢true holds)
all_strings (item (number n) ds) holds = absurd (false≢true holds)
all_strings (item (array xs) ds) holds = absurd (false≢true holds)
all_strings (item (object ms) ds) holds = absurd (false≢true holds)

are_all_strings : (texts : List (List ℕ)) → are_strings (items_of (map string texts)) ≡ true
are_all_strings [] = refl
are_all_strings (text ∷ texts) = are_all_strings texts

read_texts : (tree : Option Data) → is_text_list tree ≡ true → (texts : List (List ℕ)) × (tree ≡ Some (array (items_of (map string texts))))
read_texts None holds = absurd (false≢true holds)
read_texts (Some (array ds)) holds = (strings ds, ap (λ ds. Some (array ds)) (all_strings ds holds))
read_texts (Some null) holds = absurd (false≢true holds)
read_texts (Some (boolean b)) holds = absurd (false≢true holds)
read_texts (Some (number n)) holds = absurd (false≢true holds)
read_texts (Some (string text)) holds = absurd (false≢true holds)
read_texts (Some (object ms)) holds = absurd (false≢true holds)

texts_decides : (text : List ℕ) → Decides (are_texts text) ((texts : List (List ℕ)) × SpellsTexts text texts)
unfolding are_texts
texts_decides text = (
  λ holds. read_texts (read text) holds,
  λ is. ap is_text_list is.1 ∙ are_all_strings is.0,
)

-- ---- kinds

pub reads_decides : (kind : Kind) (text : List ℕ) → Decides (reads kind text) ((p : Param) × Spells kind text p)
unfolding reads
reads_decides Kind.Text text = (λ _. (Param.Text text, refl), λ _. refl)
reads_decides Kind.Int text = (λ holds. let is = (int_decides text).0 holds in (Param.Int is.0, (is.0, is.1, is.2, refl)), λ is. (int_decides text).1 (is.1.0, is.1.1, is.1.2))
reads_decides Kind.Truth text = (λ holds. let is = (truth_decides text).0 holds in (Param.Truth is.0, (is.0, is.1, refl)), λ is. (truth_decides text).1 (is.1.0, is.1.1))
reads_decides Kind.Date text = (λ holds. let is = (date_decides text).0 holds in (Param.Date is.0, (is.0, is.1, refl)), λ is. (date_decides text).1 (is.1.0, is.1.1))
reads_decides Kind.DateHour text = (λ holds. let is = (hour_decides text).0 holds in (Param.DateHour is.0, (is.0, is.1, refl)), λ is. (hour_decides text).1 (is.1.0, is.1.1))
reads_decides Kind.DateMinute text = (λ holds. let is = (minute_decides text).0 holds in (Param.DateMinute is.0, (is.0, is.1, refl)), λ is. (minute_decides text).1 (is.1.0, is.1.1))
reads_decides Kind.Month text = (λ holds. let is = (month_decides text).0 holds in (Param.Month is.0, (is.0, is.1, refl)), λ is. (month_decides text).1 (is.1.0, is.1.1))
reads_decides Kind.Year text = (λ holds. let is = (year_decides text).0 holds in (Param.Year is.0, (is.0, is.1, refl)), λ is. (year_decides text).1 (is.1.0, is.1.1))
reads_decides (Kind.Choice choices) text = (λ holds. (Param.Choice text, ((choice_decides choices text).0 holds, refl)), λ is. (choice_decides choices text).1 is.1.0)
reads_decides Kind.Texts text = (λ holds. let is = (texts_decides text).0 holds in (Param.Texts is.0, (is.0, is.1, refl)), λ is. (texts_decides text).1 (is.1.0, is.1.1))

not_read : (kind : Kind) (text : List ℕ) (fault : ReadFault) → ((p : Param) → Spells kind text p → fault ≡ ReadFault.NoMemory)
    → fault ≢ ReadFault.NoMemory → reads kind text ≡ false
not_read kind text fault spelled ne =
    elim (cases_Bool (reads kind text)) [
      | inl here ↦ let is = (reads_decides kind text).0 here in absurd (ne (spelled is.0 is.1))
      | inr other ↦ other
    ]

-- what the refusal of a text tells
pub fault_found : (kind : Kind) (text : List ℕ) (result : Result Param ReadFault) (fault : Option ReadFault) → IfOk result (Spells kind text)
    → ((p : Param) → Spells kind text p → IsOkUnless result ReadFault.NoMemory) → fault ≡ result_err result
    → MatchOption fault (reads kind text ≡ true) (λ fault. fault ≢ ReadFault.NoMemory → reads kind text ≡ false)
fault_found kind text (Ok p) fault value spelled is = rw is ((reads_decides kind text).1 (p, value))
fault_found kind text (Err told) fault value spelled is = rw is (not_read kind text told spelled)

unread : (kind : Kind) (text : List ℕ) (told : DeclareFault) → reads kind text ≡ false → Faults told (BadValue (codes "default"))
    → Answers (Err told) (ensured (codes "default") (reads kind text))
unread kind text told none same = rw none (refuses told (BadValue (codes "default")) (Err (BadValue (codes "default"))) same refl)

-- the refusal of a default
pub default_refused : (kind : Kind) (text : List ℕ) (fault : ReadFault) (told : DeclareFault) → (fault ≢ ReadFault.NoMemory → reads kind text ≡ false)
    → (fault ≡ ReadFault.NoMemory → told ≡ NoMemory) → (fault ≢ ReadFault.NoMemory → Faults told (BadValue (codes "default")))
    → Answers (Err told) (ensured (codes "default") (reads kind text))
default_refused kind text ReadFault.NoMemory told none memory other = rw (memory refl) (no_memory (ensured (codes "default") (reads kind text)))
default_refused kind text ReadFault.BadText told none memory other =
    let ne : ReadFault.BadText ≢ ReadFault.NoMemory = λ e. absurd (cc) in unread kind text told (none ne) (other ne)
default_refused kind text ReadFault.NotAChoice told none memory other =
    let ne : ReadFault.NotAChoice ≢ ReadFault.NoMemory = λ e. absurd (cc) in unread kind text told (none ne) (other ne)
default_refused kind text ReadFault.OutOfRange told none memory other =
    let ne : ReadFault.OutOfRange ≢ ReadFault.NoMemory = λ e. absurd (cc) in unread kind text told (none ne) (other ne)

pub default_taken : (kind : Kind) (text : List ℕ) → reads kind text ≡ true → Answers (Ok tt) (ensured (codes "default") (reads kind text))
default_taken kind text holds = rw holds (gives tt (Ok tt) refl)
