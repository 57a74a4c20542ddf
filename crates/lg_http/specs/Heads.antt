-- Which heads are served, and which bytes can no longer become one. This project's own, over RFC 9112.
use Rattle.std.specs.Prelude.{◌≡◌, ℕ, Bool, not, ◌||◌, ◌==◌, List, ◌∷◌, ◌++◌, length, nat_lt, codes, Option, Some, None, if◌then◌else◌}
use Rattle.httparse.specs.Ascii.{space, carriage_return, line_feed}
use Rattle.httparse.specs.Grammar.{AllPass, IsToken, LineEnd, print_blank, RequestHead, NeverHasRequest}
use Rattle.http1.specs.Fields.{Header}
use Rattle.lg_http.specs.Fields.{headers_of, is_framed_in, length_in}

-- how many bytes of a stream are looked at for a head
abbrev pub max_head : ℕ
max_head = 16384

-- The status with which a whole head is refused, the first that applies: its fields don't tell plainly how long the body
-- is, they are more than 64, or the body is longer than 1,048,576 bytes.
abbrev pub refusal_in : List Header → Option ℕ
refusal_in headers =
    if not (is_framed_in headers) then Some 400
    else (if nat_lt 64 (length headers) then Some 431
    else (if nat_lt 1048576 (length_in headers) then Some 413
    else None))

unfoldable pub refusal_of : RequestHead → Option ℕ
refusal_of head = refusal_in (headers_of head)

-- a head that is served
abbrev pub IsAccepted : RequestHead → Type 0
IsAccepted head = refusal_of head ≡ None

-- neither a blank nor an end of line
abbrev pub is_target_byte : ℕ → Bool
is_target_byte b = not (b == space || (b == carriage_return || b == line_feed))

-- The bytes end inside a request target: empty lines, a verb, one blank, and then no blank and no end of line.
abbrev pub IsInTarget : List ℕ → Type 0
IsInTarget bytes =
    (blank : List LineEnd) × (verb : List ℕ) × (target : List ℕ)
    × IsToken verb × AllPass is_target_byte target × (bytes ≡ print_blank blank ++ verb ++ space ∷ target)

-- No bytes can follow that make a head of these. A target is judged only once it ends.
pub record IsHopeless (front : List ℕ) : Type 0 where
  pub judged : ¬ IsInTarget front
  pub never : NeverHasRequest front
