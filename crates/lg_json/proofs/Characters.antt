-- What stands for one character.
use Rattle.std.proofs.Common.{◌≡◌, ℕ, zero, suc, ◌*◌, ◌<◌, ◌≤◌, List, [], ◌∷◌, ◌++◌, flat_map, length, take, drop, get_or, Bool, true, false, true≢false, Option, Some, None, is_some, encode_utf8, nat_lt, add-one, add-zero, length-append, length-drop, refl, sym, ap, ◌∙◌, arith}
use Rattle.std.proofs.lemmas.Bool.Decides.{nat_tests}
use Rattle.std.proofs.lemmas.List.{get_or-drop, nil_from_length}
use Rattle.std.proofs.lemmas.Str.{chars-nil, chars_past_char, byte_from_char, IsCharBoundary-start, IsCharBoundary-after_ascii, len_utf8_bounds, length-encode}
use Rattle.std.proofs.lemmas.Bool.{ltb-true, lt-ltb}
use Rattle.std.specs.Prelude.{IsUtf8, IfSome, slice_get, encode_utf8_all}
use Rattle.std.specs.Str.{chars, IsCharBoundary}
use Rattle.std.specs.Char.Escape.{encode_utf16}
use Rattle.lg_json.specs.Escapes.{is_plain, letter_of, unit_escape, escape_by, escape, escaped}

pub escape-plain : (c : ℕ) → is_plain c ≡ true → escape c ≡ c ∷ []
unfolding escape
escape-plain c plain = rw plain

pub escape-other : (c : ℕ) → is_plain c ≡ false → escape c ≡ escape_by (letter_of c) c
unfolding escape
escape-other c other = rw other

-- each unit takes six bytes
pub length-units : (units : List ℕ) → length (flat_map unit_escape units) ≡ 6 * length units
length-units [] = refl
length-units (unit ∷ units) = omega (arith, length-units units)

length-letter : (c : ℕ) (letter : Option ℕ) → is_some letter ≡ true → 2 ≡ length (escape_by letter c)
length-letter c (Some letter) is = refl
length-letter c None is = absurd (true≢false (sym is))

length-utf16 : (c n : ℕ) → (c < 0x1_0000 → n ≡ 1) → (0x1_0000 ≤ c → n ≡ 2) → length (encode_utf16 c) ≡ n
length-utf16 c n one two = grind (arith, nat_tests)

length-by-units : (c n : ℕ) (letter : Option ℕ) → is_some letter ≡ false → length (encode_utf16 c) ≡ n → 6 * n ≡ length (escape_by letter c)
length-by-units c n (Some letter) is count = absurd (true≢false is)
length-by-units c n None is count = ap (λ k. 6 * k) (sym count) ∙ sym (length-units (encode_utf16 c))

pub length-escape_letter : (c : ℕ) → is_plain c ≡ false → is_some (letter_of c) ≡ true → 2 ≡ length (escape c)
length-escape_letter c other is = rw (escape-other c other) (length-letter c (letter_of c) is)

pub length-escape_units : (c n : ℕ) → is_plain c ≡ false → is_some (letter_of c) ≡ false → (c < 0x1_0000 → n ≡ 1) → (0x1_0000 ≤ c → n ≡ 2) → 6 * n ≡ length (escape c)
length-escape_units c n other is one two = rw (escape-other c other) (length-by-units c n (letter_of c) is (length-utf16 c n one two))

-- plain characters are ASCII
plain_ascii : (c : ℕ) → is_plain c ≡ true → c < 128
plain_ascii c plain = grind (arith, nat_tests)

other_past_ascii : (c : ℕ) → 128 ≤ c → is_plain c ≡ false
other_past_ascii c past = grind (arith, nat_tests)

by_size : (c : ℕ) (bytes rest : List ℕ) (ascii : Bool) → nat_lt c 128 ≡ ascii → bytes ≡ encode_utf8 c ++ rest → is_plain (get_or bytes 0 0) ≡ false → is_plain c ≡ false
by_size c bytes rest true small begins other = let e = byte_from_char bytes rest c begins (ltb-true c 128 small) in rw (← e) other
by_size c bytes rest false big begins other = other_past_ascii c (grind (arith, nat_tests))

first_there : (bytes rest : List ℕ) (c : ℕ) → bytes ≡ encode_utf8 c ++ rest → 0 < length bytes
first_there bytes rest c begins = let at_least = (len_utf8_bounds c).0 in omega (arith, ap length begins, length-append (encode_utf8 c) rest, length-encode c, at_least)

-- the first character of a text isn't plain, where its first byte isn't
first_other : (bytes : List ℕ) → IsUtf8 bytes → (0 < length bytes → is_plain (get_or bytes 0 0) ≡ false) → IfSome (slice_get (chars bytes) 0) (λ c. is_plain c ≡ false)
first_other bytes ([], (scalar, spelled)) other = rw (← spelled, chars-nil) tt
first_other bytes (c ∷ cs, (scalar, spelled)) other =
    let first : chars bytes ≡ c ∷ chars (encode_utf8_all cs) = chars_past_char bytes (encode_utf8_all cs) c (c ∷ cs, (scalar, spelled)) (sym spelled) in
    rw first (by_size c bytes (encode_utf8_all cs) (nat_lt c 128) refl (sym spelled) (other (first_there bytes _ c (sym spelled))))

-- the same behind n bytes
pub first_other_behind : (bytes : List ℕ) (n : ℕ) → IsUtf8 (drop n bytes) → (n < length bytes → is_plain (get_or bytes n 0) ≡ false) → IfSome (slice_get (chars (drop n bytes)) 0) (λ c. is_plain c ≡ false)
first_other_behind bytes n utf8 other = first_other (drop n bytes) utf8 (λ there. rw (get_or-drop n bytes 0 0, add-zero) (other (omega (arith, there, length-drop n bytes))))

chars-ascii : (byte : ℕ) (bytes : List ℕ) → byte < 128 → chars (byte ∷ bytes) ≡ byte ∷ chars bytes
unfolding chars
chars-ascii byte [] ascii = rw (lt-ltb byte 128 ascii)
chars-ascii byte (b ∷ bytes) ascii = rw (lt-ltb byte 128 ascii)

-- a front of plain bytes stands for itself
pub escaped-plain : (bytes : List ℕ) (n : ℕ) → n ≤ length bytes → ((k : ℕ) → k < n → is_plain (get_or bytes k 0) ≡ true) → escaped (chars bytes) ≡ take n bytes ++ escaped (chars (drop n bytes))
escaped-plain bytes zero within plain = refl
escaped-plain [] (suc n) within plain = absurd (omega arith)
escaped-plain (b ∷ bytes) (suc n) within plain =
    let here = plain 0 (omega arith) in
    rw (chars-ascii b bytes (plain_ascii b here), escape-plain b here)
    (ap (λ ys. b ∷ ys) (escaped-plain bytes n (omega arith) (λ k below. plain (suc k) (omega arith))))

-- a text may be cut behind a front of plain bytes
pub boundary_past_plain : (bytes : List ℕ) (n : ℕ) → IsUtf8 bytes → n ≤ length bytes → ((k : ℕ) → k < n → is_plain (get_or bytes k 0) ≡ true) → IsCharBoundary bytes n
boundary_past_plain bytes zero utf8 within plain = IsCharBoundary-start bytes utf8
boundary_past_plain bytes (suc n) utf8 within plain = rw (← add-one n) (IsCharBoundary-after_ascii bytes n utf8 (omega arith) (plain_ascii _ (plain n (omega arith))))

-- the first character's escape comes first
pub escaped_past_char : (bytes rest : List ℕ) (c : ℕ) → IsUtf8 bytes → bytes ≡ encode_utf8 c ++ rest → escaped (chars bytes) ≡ escape c ++ escaped (chars rest)
escaped_past_char bytes rest c utf8 begins = ap escaped (chars_past_char bytes rest c utf8 begins)

pub escaped_nothing : (bytes : List ℕ) → length bytes ≡ 0 → escaped (chars bytes) ≡ []
escaped_nothing bytes none = rw (nil_from_length bytes none, chars-nil)
