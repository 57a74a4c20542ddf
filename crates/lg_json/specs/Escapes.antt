-- How a text stands between the quotes of a JSON string (RFC 8259, section 7). Which characters are escaped is this
-- project's own: all but those of printable ASCII.
use Rattle.std.specs.Prelude.{ℕ, ◌/◌, ◌%◌, ◌&&◌, ◌==◌, Bool, not, nat_le, if◌then◌else◌, List, [], ◌∷◌, Option, Some, None, flat_map}
use Rattle.std.specs.Char.{digit_char}
use Rattle.std.specs.Char.Escape.{encode_utf16}

-- the characters that stand for themselves: from the blank to the tilde, but for the quote and the backslash
abbrev pub is_plain : ℕ → Bool
is_plain c = nat_le 32 c && nat_le c 126 && not (c == 34) && not (c == 92)

-- the letter behind the backslash, of those characters that have one: the quote, the backslash, and backspace, form
-- feed, line feed, carriage return and tab
abbrev pub letter_of : ℕ → Option ℕ
letter_of c =
    if c == 34 then Some 34 else
    (if c == 92 then Some 92 else
    (if c == 8 then Some 98 else
    (if c == 12 then Some 102 else
    (if c == 10 then Some 110 else
    (if c == 13 then Some 114 else
    (if c == 9 then Some 116 else None))))))

-- `\u` and the four lower-case hexadecimal digits of 16 bits
abbrev pub unit_escape : ℕ → List ℕ
unit_escape unit =
    92 ∷ 117 ∷ digit_char (unit / 4096) ∷ digit_char (unit / 256 % 16) ∷ digit_char (unit / 16 % 16) ∷ digit_char (unit % 16) ∷ []

-- a backslash and the letter, or else each unit of the character's UTF-16, which has two past U+FFFF
abbrev pub escape_by : Option ℕ → ℕ → List ℕ
escape_by (Some letter) c = 92 ∷ letter ∷ []
escape_by None c = flat_map unit_escape (encode_utf16 c)

-- what stands for one character
unfoldable pub escape : ℕ → List ℕ
escape c = if is_plain c then c ∷ [] else escape_by (letter_of c) c

-- the bytes that stand for these characters
abbrev pub escaped : List ℕ → List ℕ
escaped = flat_map escape
