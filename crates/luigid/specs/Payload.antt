-- Where a message's payload stands: in the form of its target's query and its body (WHATWG URL standard, section 5).
use Rattle.std.specs.Prelude.{ℕ, ◌+◌, ◌==◌, List, [], ◌++◌, take, drop, reverse, find, position, codes, Option, option_map}
use Rattle.std.specs.Option.{option_map_or}
use Rattle.std.specs.Str.{bytes_eq}
use Rattle.std.specs.Str.Lossy.{utf8_lossy}
use Rattle.form_urlencoded.specs.Form.{raw_pairs, decode}

-- the place of the first question mark
abbrev pub question_mark : List ℕ → Option ℕ
question_mark target = position (λ b. b == 63) target

-- the path of a target stands before the first question mark
abbrev pub path_of : List ℕ → List ℕ
path_of target = option_map_or (λ at. take at target) (question_mark target) target

-- and the query behind it
abbrev pub query_of : List ℕ → List ℕ
query_of target = option_map_or (λ at. drop (at + 1) target) (question_mark target) []

-- the text that a name or a value stands for: what isn't UTF-8 has U+FFFD in its place
abbrev pub decoded : List ℕ → List ℕ
decoded bytes = utf8_lossy (decode bytes)

-- the value of the last pair of the name `data`, not decoded
abbrev pub last_data : List (List ℕ × List ℕ) → Option (List ℕ)
last_data pairs = option_map (λ p. p.1) (find (λ p. bytes_eq (decoded p.0) (codes "data")) (reverse pairs))

-- the form of a message: the pairs of the query, and then those of the body, not decoded
abbrev pub form_of : List ℕ → List ℕ → List (List ℕ × List ℕ)
form_of target body = raw_pairs (query_of target) ++ raw_pairs body

-- the payload is the last value named `data`, and an empty object where there is none
abbrev pub payload_of : List ℕ → List ℕ → List ℕ
payload_of target body = option_map_or decoded (last_data (form_of target body)) (codes "{}")
