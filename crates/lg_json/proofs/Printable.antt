-- What is written between quotes is printable ASCII.
use Rattle.std.proofs.Common.{◌≡◌, ℕ, suc, ◌/◌, ◌%◌, ◌<◌, List, [], ◌∷◌, ◌++◌, map, flat_map, Bool, true, false, Option, Some, None, refl, arith}
use Rattle.std.proofs.Math.Utf8.{scalar, scalars}
use Rattle.std.proofs.lemmas.Bool.Decides.{nat_tests}
use Rattle.std.proofs.lemmas.Bool.{and_parts}
use Rattle.std.proofs.lemmas.List.Elements.{All-nil, All-cons}
use Rattle.std.proofs.lemmas.Str.{scalars-chars}
use Rattle.std.proofs.lemmas.Str.Ascii.{IsAscii-from_all}
use Rattle.std.specs.Char.{digit_char}
use Rattle.std.specs.Char.Escape.{encode_utf16}
use Rattle.std.specs.List.{All}
use Rattle.std.specs.Prelude.{IfSome, IsUtf8, chars}
use Rattle.std.specs.Str.{IsAscii}
use Rattle.lg_json.specs.Canonical.{IsPrintable, AreTexts, pair_text, canonical_text}
use Rattle.lg_json.specs.Escapes.{is_plain, letter_of, unit_escape, escape_by, escape, escaped}
use Rattle.lg_json.specs.Text.{quoted, with_commas}
use Rattle.lg_json.proofs.Characters.{escape-plain, escape-other}
use Rattle.lg_json.proofs.Commas.{after_separator, with_commas-after}

-- each byte is printable
abbrev pub ArePrintable : List ℕ → Type 0
ArePrintable [] = Unit {0}
ArePrintable (b ∷ bytes) = IsPrintable b × ArePrintable bytes

both : (xs ys : List ℕ) → ArePrintable xs → ArePrintable ys → ArePrintable (xs ++ ys)
both [] ys first second = second
both (x ∷ xs) ys (here, later) second = (here, both xs ys later second)

digit : (d : ℕ) → d < 16 → IsPrintable (digit_char d)
digit d small = grind (arith, nat_tests)

unit : (u : ℕ) → u < 0x1_0000 → ArePrintable (unit_escape u)
unit u small =
    ((omega arith, omega arith), ((omega arith, omega arith), (digit (u / 4096) (omega arith), (digit (u / 256 % 16) (omega arith), (digit (u / 16 % 16) (omega arith), (digit (u % 16) (omega arith), tt))))))

abbrev AreUnits : List ℕ → Type 0
AreUnits [] = Unit {0}
AreUnits (u ∷ us) = (u < 0x1_0000) × AreUnits us

units : (us : List ℕ) → AreUnits us → ArePrintable (flat_map unit_escape us)
units [] small = tt
units (u ∷ us) (first, later) = both (unit_escape u) _ (unit u first) (units us later)

-- a character has units of 16 bits
small_units : (c : ℕ) → scalar c ≡ true → AreUnits (encode_utf16 c)
small_units c is = grind (arith, nat_tests)

letter : (c : ℕ) → IfSome (letter_of c) IsPrintable
letter c = grind (arith, nat_tests)

by_letter : (c : ℕ) (found : Option ℕ) → scalar c ≡ true → IfSome found IsPrintable → ArePrintable (escape_by found c)
by_letter c (Some l) is printable = ((omega arith, omega arith), (printable, tt))
by_letter c None is printable = units (encode_utf16 c) (small_units c is)

plain : (c : ℕ) → is_plain c ≡ true → IsPrintable c
plain c is = grind (arith, nat_tests)

by_plain : (c : ℕ) (p : Bool) → scalar c ≡ true → is_plain c ≡ p → ArePrintable (escape c)
by_plain c true is plain_one = rw (escape-plain c plain_one) (plain c plain_one, tt)
by_plain c false is other = rw (escape-other c other) (by_letter c (letter_of c) is (letter c))

escapes : (cs : List ℕ) → scalars cs ≡ true → ArePrintable (escaped cs)
escapes [] are = tt
escapes (c ∷ cs) are =
    let parts = and_parts (scalar c) (scalars cs) are in
    both (escape c) _ (by_plain c (is_plain c) parts.0 refl) (escapes cs parts.1)

pub printable-quoted : (text : List ℕ) → IsUtf8 text → ArePrintable (quoted text)
printable-quoted text utf8 = ((omega arith, omega arith), both (escaped (chars text)) _ (escapes (chars text) (scalars-chars text utf8)) ((omega arith, omega arith), tt))

pair_printable : (pair : List ℕ × List ℕ) → IsUtf8 pair.0 → IsUtf8 pair.1 → ArePrintable (pair_text pair)
pair_printable pair name value = both (quoted pair.0) _ (printable-quoted pair.0 name) ((omega arith, omega arith), printable-quoted pair.1 value)

pairs_printable : (separator : List ℕ) (pairs : List (List ℕ × List ℕ)) → ArePrintable separator → AreTexts pairs → ArePrintable (after_separator separator (map pair_text pairs))
pairs_printable separator [] is texts = tt
pairs_printable separator (pair ∷ pairs) is texts =
    let first = texts 0 pair (omega arith) in
    let later : AreTexts pairs = λ k d within. texts (suc k) d (omega arith) in
    both separator _ is
    (both (pair_text pair) _ (pair_printable pair first.0 first.1) (pairs_printable (44 ∷ []) pairs ((omega arith, omega arith), tt) later))

pub printable-canonical_text : (pairs : List (List ℕ × List ℕ)) → AreTexts pairs → ArePrintable (canonical_text pairs)
printable-canonical_text pairs texts =
    ((omega arith, omega arith), both (with_commas (map pair_text pairs)) _ (rw (with_commas-after (map pair_text pairs)) (pairs_printable [] pairs tt texts)) ((omega arith, omega arith), tt))

pub All-printable : (bytes : List ℕ) → ArePrintable bytes → All IsPrintable bytes
All-printable [] are = All-nil IsPrintable
All-printable (b ∷ bytes) (first, later) = All-cons IsPrintable b bytes first (All-printable bytes later)

all_ascii : (bytes : List ℕ) → ArePrintable bytes → All (λ b. b < 128) bytes
all_ascii [] are = All-nil (λ b. b < 128)
all_ascii (b ∷ bytes) (first, later) = All-cons (λ b. b < 128) b bytes (omega (arith, first.1)) (all_ascii bytes later)

pub ascii : (bytes : List ℕ) → ArePrintable bytes → IsAscii bytes
ascii bytes are = IsAscii-from_all bytes (all_ascii bytes are)
