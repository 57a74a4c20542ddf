-- Which texts a kind reads, as a test. That it is the reading of `lg_params` is a law in `src/laws.rt`. This project's own,
-- after Luigi's parameters; the calendar is that of `jiff`, and lists are JSON (RFC 8259).
use Rattle.std.specs.Prelude.{ℕ, ◌==◌, ◌&&◌, ◌||◌, ◌^◌, nat_lt, not, Bool, true, false, List, ◌∷◌, ◌++◌, length, codes, Option, Some, ℤ, pos, negsuc}
use Rattle.std.specs.List.{list_any, range_with_len}
use Rattle.std.specs.Str.{all_ascii_digits, bytes_eq, str_to_ascii_lowercase}
use Rattle.std.specs.Str.Parse.{without_leading_sign, signed_digits_value}
use Rattle.jiff_core.specs.Calendar.{days_in_month}
use Rattle.serde_json.specs.Data.{Data, string, array, Items, no_items, item}
use Rattle.serde_json.specs.Read.{read}
use Rattle.lg_params.specs.Dates.{year_text, month_text, date_text}
use Rattle.lg_params.specs.Places.{two_digits}
use Rattle.lg_params.specs.declared.kinds.Kind.{Kind}
use Rattle.lg_declare.specs.Template.{is_among}

-- whether the test holds of one of so many numbers, from the first on
abbrev pub some_of : ℕ → ℕ → (ℕ → Bool) → Bool
some_of first count test = list_any test (range_with_len first count)

-- an optional sign and one or more decimal digits, within 64 bits
abbrev pub fits_64_bits : ℤ → Bool
fits_64_bits (pos n) = nat_lt n (2 ^ 63)
fits_64_bits (negsuc n) = nat_lt n (2 ^ 63)

abbrev pub is_numeral : List ℕ → Bool
is_numeral digits = not (length digits == 0) && all_ascii_digits digits

unfoldable pub is_int : List ℕ → Bool
is_int text = is_numeral (without_leading_sign text) && fits_64_bits (signed_digits_value 10 text)

-- in any ASCII case
unfoldable pub is_truth : List ℕ → Bool
is_truth text = bytes_eq (str_to_ascii_lowercase text) (codes "true") || bytes_eq (str_to_ascii_lowercase text) (codes "false")

-- one of the years from 0001 to 9999, of their months, and of their days
unfoldable pub is_year : List ℕ → Bool
is_year text = some_of 1 9999 (λ year. bytes_eq text (year_text year))

unfoldable pub is_month : List ℕ → Bool
is_month text = some_of 1 9999 (λ year. some_of 1 12 (λ month. bytes_eq text (month_text year month)))

unfoldable pub is_dated : (List ℕ → Bool) → Bool
is_dated test =
    some_of 1 9999 (λ year. some_of 1 12 (λ month. some_of 1 (days_in_month (pos year) month) (λ day. test (date_text year month day))))

-- an hour and a minute of a day
unfoldable pub is_hour_of : List ℕ → List ℕ → Bool
is_hour_of text date = some_of 0 24 (λ hour. bytes_eq text (date ++ 84 ∷ two_digits hour))

unfoldable pub is_minute_of : List ℕ → List ℕ → Bool
is_minute_of text date =
    some_of 0 24 (λ hour. some_of 0 60 (λ minute. bytes_eq text ((date ++ 84 ∷ two_digits hour) ++ two_digits minute)))

-- a JSON list of texts
abbrev pub are_strings : Items → Bool
are_strings no_items = true
are_strings (item (string text) items) = are_strings items
are_strings (item _ items) = false

abbrev pub is_text_list : Option Data → Bool
is_text_list (Some (array items)) = are_strings items
is_text_list _ = false

unfoldable pub are_texts : List ℕ → Bool
are_texts text = is_text_list (read text)

unfoldable pub reads : Kind → List ℕ → Bool
reads Kind.Text text = true
reads Kind.Int text = is_int text
reads Kind.Truth text = is_truth text
reads Kind.Date text = is_dated (bytes_eq text)
reads Kind.DateHour text = is_dated (is_hour_of text)
reads Kind.DateMinute text = is_dated (is_minute_of text)
reads Kind.Month text = is_month text
reads Kind.Year text = is_year text
reads (Kind.Choice choices) text = is_among choices text
reads Kind.Texts text = are_texts text
