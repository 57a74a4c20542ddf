-- What the fields of a head say of the body's length.
use Rattle.std.proofs.Common.{◌≡◌, ℕ, ◌+◌, ◌-◌, ◌^◌, ◌≤◌, min, Bool, true, false, not, cond, ◌&&◌, ◌||◌, nat_lt, List, [], ◌∷◌, ◌++◌, map, length, refl, sym, ◌∙◌, ap, arith}
use Rattle.std.specs.Prelude.{◌==◌, ◌<◌, Option, Some, None, codes, count_by}
use Rattle.std.specs.Char.{is_ascii_digit, to_ascii_lowercase}
use Rattle.std.specs.List.{list_all, list_any}
use Rattle.std.specs.Str.Parse.{digits_value}
use Rattle.std.proofs.lemmas.Bool.{ltb-true, ltb-false, lt-ltb, eqb-false}
use Rattle.std.proofs.lemmas.List.Sums.{sum_by-cons}
use Rattle.std.proofs.lemmas.Slice.Eq.{bytes_eq-Decides}
use Rattle.httparse.specs.declared.spans.HeaderSpan.{HeaderSpan}
use Rattle.http1.specs.Text.{eq_ignore_case}
use Rattle.http1.specs.declared.fields.ContentLength.{ContentLength}
use Rattle.http1.specs.declared.fields.ContentLength.TheVariants as Length
use Rattle.http1.specs.declared.fields.KnownFields.{KnownFields}
use Rattle.http1.specs.Fields.{Header, is_named, values_named, content_length, is_framing_field, known_fields}
use Rattle.lg_http.specs.declared.framing.BodyLength.{BodyLength}
use Rattle.lg_http.specs.declared.framing.BodyLength.TheVariants as Told
use Rattle.lg_http.specs.Fields.{closes_in, is_decimal, is_decimal_length, is_encoded_in, is_framed_in, is_plain, first_number, length_in, lengths_in}
use Rattle.lg_http.specs.Framing.{Tells}
use Rattle.lg_http.specs.Heads.{refusal_in}

-- the two names that frame a body are not the same
apart : (name : List ℕ) → eq_ignore_case name (codes "content-length") ≡ true
    → eq_ignore_case name (codes "transfer-encoding") ≡ true → ⊥
unfolding eq_ignore_case
apart name sized encoded =
    let one = (bytes_eq-Decides (map to_ascii_lowercase name) (codes "content-length")).0 sized in
    let other = (bytes_eq-Decides (map to_ascii_lowercase name) (codes "transfer-encoding")).0 encoded in
    differ (length (codes "content-length")) (length (codes "transfer-encoding")) refl refl (ap length (sym one ∙ other))
  where
    differ : (a b : ℕ) → a ≡ 14 → b ≡ 17 → a ≡ b → ⊥
    differ a b x y e = omega arith

counts_one : (sized encoded : Bool) (value : List ℕ) (values : List (List ℕ)) (all coded : ℕ)
    → (sized ≡ true → encoded ≡ true → ⊥) → all ≡ length values + coded
    → cond (sized || encoded) 1 0 + all ≡ length (cond sized (value ∷ []) [] ++ values) + (cond encoded 1 0 + coded)
counts_one true true value values all coded differ e = absurd (differ refl refl)
counts_one true false value values all coded differ e = omega arith
counts_one false true value values all coded differ e = omega arith
counts_one false false value values all coded differ e = omega arith

-- a field that frames the body has one of the two names
pub framing_count : (headers : List Header) → count_by is_framing_field headers
    ≡ length (values_named (codes "content-length") headers) + count_by (is_named (codes "transfer-encoding")) headers
framing_count [] = refl
framing_count (h ∷ hs) =
    sum_by-cons (λ x. cond (is_framing_field x) 1 0) h hs
    ∙ counts_one (is_named (codes "content-length") h) (is_named (codes "transfer-encoding") h) h.1
    (values_named (codes "content-length") hs) (count_by is_framing_field hs)
    (count_by (is_named (codes "transfer-encoding")) hs) (apart h.0) (framing_count hs)
    ∙ ap (λ n. length (values_named (codes "content-length") (h ∷ hs)) + n)
    (sym (sum_by-cons (λ x. cond (is_named (codes "transfer-encoding") x) 1 0) h hs))

-- none passes where the count is 0
none_counted : {X : Type 0} (p : X → Bool) (xs : List X) → count_by p xs ≡ 0 → list_any p xs ≡ false
none_counted p [] none = refl
none_counted p (x ∷ xs) none = step (p x) (sym (sum_by-cons (λ y. cond (p y) 1 0) x xs) ∙ none) (none_counted p xs)
  where
    step : (b : Bool) {n : ℕ} {rest : Bool} → cond b 1 0 + n ≡ 0 → (n ≡ 0 → rest ≡ false) → (b || rest) ≡ false
    step true e later = absurd (omega arith)
    step false e later = later (omega arith)

count_none : {X : Type 0} (p : X → Bool) (xs : List X) → list_any p xs ≡ false → count_by p xs ≡ 0
count_none p [] none = refl
count_none p (x ∷ xs) none = sum_by-cons (λ y. cond (p y) 1 0) x xs ∙ step (p x) none (count_none p xs)
  where
    step : (b : Bool) {n : ℕ} {rest : Bool} → (b || rest) ≡ false → (rest ≡ false → n ≡ 0) → cond b 1 0 + n ≡ 0
    step true e later = absurd (cc)
    step false e later = omega (arith, later e)

-- no field frames the body
pub told_none : (headers : List Header) → count_by is_framing_field headers ≡ 0 → Tells Told.Absent headers
told_none headers none =
    let counts = framing_count headers in
    let plain = none_counted (is_named (codes "transfer-encoding")) headers (omega (arith, counts)) in
    empty (is_encoded_in headers) plain (lengths_in headers) (omega (arith, counts))
  where
    empty : (encoded : Bool) → encoded ≡ false → (values : List (List ℕ)) → length values ≡ 0
        → (not encoded && is_plain values ≡ true) × (nat_lt 0 (length values) ≡ false) × (first_number values ≡ 0)
    empty true plain values none = absurd (cc)
    empty false plain [] none = (refl, refl, refl)
    empty false plain (value ∷ values) none = absurd (omega arith)

-- more than one does
pub told_many : (headers : List Header) → 2 ≤ count_by is_framing_field headers → Tells Told.Unclear headers
told_many headers many =
    unclear (is_encoded_in headers) (count_none (is_named (codes "transfer-encoding")) headers) (lengths_in headers)
    (omega (arith, framing_count headers))
  where
    unclear : (encoded : Bool) {coded : ℕ} → (encoded ≡ false → coded ≡ 0) → (values : List (List ℕ))
        → 2 ≤ length values + coded → not encoded && is_plain values ≡ false
    unclear true none values more = refl
    unclear false none [] more = absurd (omega (arith, none refl))
    unclear false none (value ∷ []) more = absurd (omega (arith, none refl))
    unclear false none (value ∷ other ∷ values) more = refl

-- a field that tells a length by a number is one of the values
decimal_named : (headers : List Header) → list_any is_decimal_length headers ≡ list_any is_decimal (lengths_in headers)
decimal_named [] = refl
decimal_named (h ∷ hs) = step (is_named (codes "content-length") h) (is_decimal h.1) h.1 (lengths_in hs) refl (decimal_named hs)
  where
    step : (named decimal : Bool) (value : List ℕ) {more : Bool} (values : List (List ℕ)) → decimal ≡ is_decimal value
        → more ≡ list_any is_decimal values
        → (named && decimal) || more ≡ list_any is_decimal (cond named (value ∷ []) [] ++ values)
    step true decimal value values is same = cc
    step false decimal value values is same = same

any_mapped : {X Y : Type 0} (p : Y → Bool) (f : X → Y) (xs : List X) → list_any p (map f xs) ≡ list_any (λ x. p (f x)) xs
any_mapped p f [] = refl
any_mapped p f (x ∷ xs) = ap (λ more. p (f x) || more) (any_mapped p f xs)

-- a text that isn't empty is decimal where its bytes are digits
pub decimal_text : (text : List ℕ) (empty digits : Bool) → empty ≡ (length text == 0) → empty ≡ false
    → digits ≡ list_all is_ascii_digit text → digits ≡ is_decimal text
decimal_text text empty digits is none all =
    let some : 0 < length text = omega (arith, eqb-false (length text) 0 (sym is ∙ none)) in
    all ∙ ap (λ b. b && list_all is_ascii_digit text) (sym (lt-ltb 0 (length text) some))

-- what one field alone tells
abbrev pub only_told : ContentLength → Bool → BodyLength
only_told Length.Absent decimal = Told.Unclear
only_told (Length.Value n) decimal = Told.Bytes n
only_told Length.Invalid decimal = cond decimal (Told.Bytes (2 ^ 64 - 1)) Told.Unclear

-- what is told of values, where a transfer coding stands beside them or not
TellsIn : BodyLength → Bool → List (List ℕ) → Type 0
TellsIn Told.Absent encoded values =
    (not encoded && is_plain values ≡ true) × (nat_lt 0 (length values) ≡ false) × (first_number values ≡ 0)
TellsIn (Told.Bytes n) encoded values =
    (not encoded && is_plain values ≡ true) × (nat_lt 0 (length values) ≡ true) × (n ≡ min (first_number values) (2 ^ 64 - 1))
TellsIn Told.Unclear encoded values = not encoded && is_plain values ≡ false

tells_headers : (told : BodyLength) (headers : List Header) → TellsIn told (is_encoded_in headers) (lengths_in headers) → Tells told headers
unfolding TellsIn
tells_headers Told.Absent headers told = told
tells_headers (Told.Bytes n) headers told = told
tells_headers Told.Unclear headers told = told

-- what is told of one number
TellsNumber : BodyLength → Bool → ℕ → Type 0
TellsNumber Told.Absent decimal number = ⊥
TellsNumber (Told.Bytes n) decimal number = (decimal ≡ true) × (n ≡ min number (2 ^ 64 - 1))
TellsNumber Told.Unclear decimal number = decimal ≡ false

tells_value : (told : BodyLength) (value : List ℕ) → TellsNumber told (is_decimal value) (digits_value 10 value) → TellsIn told false (value ∷ [])
unfolding TellsIn TellsNumber
tells_value Told.Absent value told = absurd told
tells_value (Told.Bytes n) value told = (told.0, refl, told.1)
tells_value Told.Unclear value told = told

-- one value is a number, and it fits 64 bits or it doesn't; or it is none
one_number : (value : List ℕ) (decimal : Bool) → decimal ≡ list_any is_decimal (value ∷ [])
    → TellsNumber (only_told (content_length (value ∷ [])) decimal) (is_decimal value) (digits_value 10 value)
unfolding TellsNumber
one_number value decimal is =
    tests (nat_lt 0 (length value)) (list_all is_ascii_digit value) (digits_value 10 value) (nat_lt (digits_value 10 value) (2 ^ 64)) refl decimal is
  where
    tests : (a b : Bool) (d : ℕ) (c : Bool) → nat_lt d (2 ^ 64) ≡ c → (decimal : Bool) → decimal ≡ (a && b) || false
        → TellsNumber (only_told (cond ((a && (b && c)) && true) (Length.Value d) Length.Invalid) decimal) (a && b) d
    tests true true d true e decimal is = (refl, omega (arith, ltb-true d (2 ^ 64) e))
    tests true true d false e true is = (refl, omega (arith, ltb-false d (2 ^ 64) e))
    tests true true d false e false is = absurd (cc)
    tests true false d c e true is = absurd (cc)
    tests true false d c e false is = refl
    tests false b d c e true is = absurd (cc)
    tests false b d c e false is = refl

-- one field alone frames the body
only_tells : (headers : List Header) → count_by is_framing_field headers ≡ 1
    → Tells (only_told (content_length (lengths_in headers)) (list_any is_decimal_length headers)) headers
unfolding TellsIn
only_tells headers one =
    tells_headers _ headers
    (step (is_encoded_in headers) (none_counted (is_named (codes "transfer-encoding")) headers)
    (count_none (is_named (codes "transfer-encoding")) headers) (lengths_in headers)
    (omega (arith, framing_count headers, one)) (list_any is_decimal_length headers) (decimal_named headers))
  where
    step : (encoded : Bool) {coded : ℕ} → (coded ≡ 0 → encoded ≡ false) → (encoded ≡ false → coded ≡ 0)
        → (values : List (List ℕ)) → length values + coded ≡ 1
        → (decimal : Bool) → decimal ≡ list_any is_decimal values
        → TellsIn (only_told (content_length values) decimal) encoded values
    step true plain none [] all decimal is = refl
    step false plain none [] all decimal is = absurd (omega (arith, all, none refl))
    step true plain none (value ∷ []) all decimal is = (let same : true ≡ false = plain (omega (arith, all)) in absurd (cc))
    step false plain none (value ∷ []) all decimal is = tells_value _ value (one_number value decimal is)
    step encoded plain none (value ∷ other ∷ values) all decimal is = absurd (omega (arith, all))

-- the same of the headers that fields cover, with what was read of them
pub told_only : (told : ContentLength) (cover : HeaderSpan → Header) (fields : List HeaderSpan) (decimal : Bool)
    → count_by is_framing_field (map cover fields) ≡ 1 → told ≡ content_length (lengths_in (map cover fields))
    → decimal ≡ list_any (λ field. is_decimal_length (cover field)) fields
    → Tells (only_told told decimal) (map cover fields)
told_only told cover fields decimal one is any =
    let same : decimal ≡ list_any is_decimal_length (map cover fields) = any ∙ sym (any_mapped is_decimal_length cover fields) in
    rw (is, same) (only_tells (map cover fields) one)

-- a head that isn't refused has no long body
pub short_body : (headers : List Header) → refusal_in headers ≡ None → length_in headers ≤ 1048576
short_body headers none =
    tests (is_framed_in headers) (nat_lt 64 (length headers)) (nat_lt 1048576 (length_in headers)) (ltb-false 1048576 (length_in headers)) none
  where
    tests : (a b c : Bool) {P : Type 0} → (c ≡ false → P)
        → cond {A = Option ℕ} (not a) (Some 400) (cond b (Some 431) (cond c (Some 413) None)) ≡ None → P
    tests false b c tells e = absurd (cc)
    tests true true c tells e = absurd (cc)
    tests true false true tells e = absurd (cc)
    tests true false false tells e = tells refl

-- what the summary of a head's fields counts and tells
pub fields_counted : (known : KnownFields) (headers : List Header) → known ≡ known_fields headers
    → known.framing_fields ≡ min (count_by is_framing_field headers) 2
unfolding known_fields
fields_counted known headers is = ap (λ k. k.framing_fields) is

pub length_told : (known : KnownFields) (headers : List Header) → known ≡ known_fields headers
    → known.content_length ≡ content_length (lengths_in headers)
unfolding known_fields
length_told known headers is = ap (λ k. k.content_length) is

pub closes_told : (known : KnownFields) (headers : List Header) → known ≡ known_fields headers → known.close ≡ closes_in headers
unfolding known_fields
closes_told known headers is = ap (λ k. k.close) is

-- the number of fields that frame the body, where they are counted up to two
pub one_counted : (known : KnownFields) (headers : List Header) → known ≡ known_fields headers → known.framing_fields ≡ 1
    → count_by is_framing_field headers ≡ 1
one_counted known headers is one = omega (arith, fields_counted known headers is, one)

pub none_counted_tells : (known : KnownFields) (headers : List Header) → known ≡ known_fields headers → known.framing_fields ≡ 0
    → Tells Told.Absent headers
none_counted_tells known headers is none = told_none headers (omega (arith, fields_counted known headers is, none))

pub more_counted_tells : (known : KnownFields) (headers : List Header) → known ≡ known_fields headers
    → (known.framing_fields ≡ 0 → ⊥) → (known.framing_fields ≡ 1 → ⊥) → Tells Told.Unclear headers
more_counted_tells known headers is none one =
    told_many headers (omega (arith, fields_counted known headers is, none, one))
