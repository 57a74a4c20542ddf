-- A text whose parts are written one behind the other.
use Rattle.std.proofs.Common.{◌≡◌, ℕ, ◌+◌, ◌-◌, ◌^◌, ◌<◌, ◌≤◌, min, List, [], ◌++◌, length, drop, get_or, ap, ◌∙◌, arith}
use Rattle.std.proofs.lemmas.Grind.{flat_map-append}
use Rattle.std.proofs.lemmas.List.{at_drop_more, drop_all}
use Rattle.std.proofs.lemmas.Str.{chars-append, chars-nil}
use Rattle.std.specs.Borrow.{Bor}
use Rattle.std.specs.Prelude.{IsUtf8, chars}
use Rattle.lg_json.specs.Capped.{capped}
use Rattle.lg_json.specs.Escapes.{escape, escaped}
use Rattle.lg_json.specs.Parts.{joined}

-- the escapes of the parts from this place on
abbrev pub left_from : List (Bor (List ℕ)) → ℕ → List ℕ
left_from parts i = escaped (chars (joined (drop i parts)))

-- the escapes of the part at hand come next
pub next_part : (parts : List (Bor (List ℕ))) (i : ℕ) (d : Bor (List ℕ)) → i < length parts → IsUtf8 (get_or parts i d).now
    → left_from parts i ≡ escaped (chars (get_or parts i d).now) ++ left_from parts (i + 1)
next_part parts i d within utf8 =
    let part = (get_or parts i d).now in
    let rest = joined (drop (i + 1) parts) in
    ap (λ (bytes : List ℕ). escaped (chars bytes)) (at_drop_more joined parts i d within)
    ∙ ap escaped (chars-append part rest utf8)
    ∙ flat_map-append escape (chars part) (chars rest)

-- behind the last part nothing comes
pub no_part_left : (parts : List (Bor (List ℕ))) (i : ℕ) → length parts ≤ i → left_from parts i ≡ []
no_part_left parts i past = ap (λ (ps : List (Bor (List ℕ))). escaped (chars (joined ps))) (drop_all i parts past) ∙ ap escaped chars-nil

-- a part's length is added, and both stand still at the end of 64 bits
pub length_added : (total size sum piece left : ℕ) → size ≡ capped piece → sum ≡ min (total + size) (2 ^ 64 - 1)
    → capped (sum + left) ≡ capped (total + (piece + left))
length_added total size sum piece left is added = omega (arith, is, added)
