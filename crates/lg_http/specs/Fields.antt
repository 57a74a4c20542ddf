-- What the head of a request says of its body and of the connection (RFC 9112, sections 6 and 9.6). Names of fields are
-- compared without regard to ASCII case.
use Rattle.std.specs.Prelude.{ℕ, Bool, true, false, not, ◌&&◌, ◌||◌, ◌==◌, List, [], ◌∷◌, map, length, nat_lt, codes}
use Rattle.std.specs.Char.{is_ascii_digit}
use Rattle.std.specs.List.{list_all, list_any}
use Rattle.std.specs.Str.{bytes_eq}
use Rattle.std.specs.Str.Parse.{digits_value}
use Rattle.httparse.specs.Grammar.{RequestHead}
use Rattle.httparse.specs.Spans.{name_and_value}
use Rattle.http1.specs.Fields.{Header, is_named, values_named, elements_named, has_option}

-- the names and the values of the fields, in order
abbrev pub headers_of : RequestHead → List Header
headers_of head = map name_and_value head.fields

-- one or more digits, and nothing else
abbrev pub is_decimal : List ℕ → Bool
is_decimal text = nat_lt 0 (length text) && list_all is_ascii_digit text

-- the values of the fields named Content-Length
abbrev pub lengths_in : List Header → List (List ℕ)
lengths_in headers = values_named (codes "content-length") headers

-- there is none, or there is one and it is a decimal number
abbrev pub is_plain : List (List ℕ) → Bool
is_plain [] = true
is_plain (value ∷ []) = is_decimal value
is_plain (value ∷ other ∷ values) = false

-- the number that the first writes, 0 where there is none
abbrev pub first_number : List (List ℕ) → ℕ
first_number [] = 0
first_number (value ∷ values) = digits_value 10 value

-- the field is named Content-Length, and its value is a decimal number
abbrev pub is_decimal_length : Header → Bool
is_decimal_length header = is_named (codes "content-length") header && is_decimal header.1

-- a field is named Transfer-Encoding
abbrev pub is_encoded_in : List Header → Bool
is_encoded_in headers = list_any (is_named (codes "transfer-encoding")) headers

-- the fields tell plainly how long the body is
abbrev pub is_framed_in : List Header → Bool
is_framed_in headers = not (is_encoded_in headers) && is_plain (lengths_in headers)

-- a field tells the body's length
abbrev pub is_sized_in : List Header → Bool
is_sized_in headers = nat_lt 0 (length (lengths_in headers))

-- the body's length, in bytes: 0 where no field tells it
abbrev pub length_in : List Header → ℕ
length_in headers = first_number (lengths_in headers)

-- a field named Connection lists `close`
abbrev pub closes_in : List Header → Bool
closes_in headers = has_option (codes "close") (elements_named (codes "connection") headers)

-- the same of a head
abbrev pub is_framed : RequestHead → Bool
is_framed head = is_framed_in (headers_of head)

abbrev pub is_sized : RequestHead → Bool
is_sized head = is_sized_in (headers_of head)

abbrev pub body_length : RequestHead → ℕ
body_length head = length_in (headers_of head)

-- The connection ends behind the message: it is of HTTP/1.0, it asks for that, or it is a POST that doesn't tell how long
-- its body is.
abbrev pub closes_with : ℕ → List ℕ → List Header → Bool
closes_with minor verb headers =
    (minor == 0) || closes_in headers || (bytes_eq verb (codes "POST") && not (is_sized_in headers))

abbrev pub closes : RequestHead → Bool
closes head = closes_with head.minor head.method (headers_of head)
