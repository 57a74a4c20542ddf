-- The digits of a digest.
use Rattle.std.proofs.Common.{◌≡◌, ℕ, ◌*◌, ◌<◌, Bool, true, List, length, refl, ap, ◌∙◌}
use Rattle.std.proofs.lemmas.Bool.{ltb-true}
use Rattle.std.proofs.lemmas.List.Elements.{All-weaker}
use Rattle.std.proofs.lemmas.List.Sums.{AllPass-from_list_all}
use Rattle.std.proofs.lemmas.Str.Ascii.{IsAscii-from_all}
use Rattle.std.specs.Prelude.{nat_lt}
use Rattle.std.specs.Str.{IsAscii}
use Rattle.md5.specs.Md5.{md5}
use Rattle.md5.proofs.StandardFacts.{length-md5}
use Rattle.hex.specs.Hex.{encode_lower, lower_digits}
use Rattle.hex.proofs.HexLemmas.{length-encode_with, IsAscii-encode_with}
use Rattle.lg_taskid.specs.Digest.{md5_digits}

ascii-lower_digits : IsAscii lower_digits
ascii-lower_digits =
    let small : ℕ → Bool = λ digit. nat_lt digit 128 in
    IsAscii-from_all lower_digits (All-weaker (λ digit. small digit ≡ true) (λ digit. digit < 128) (λ digit. ltb-true digit 128) lower_digits (AllPass-from_list_all small lower_digits refl))

pub ascii-encode_lower : (bytes : List ℕ) → IsAscii (encode_lower bytes)
ascii-encode_lower bytes = IsAscii-encode_with lower_digits bytes ascii-lower_digits

pub length-md5_digits : (message : List ℕ) → length (md5_digits message) ≡ 32
length-md5_digits message = length-encode_with lower_digits (md5 message) ∙ ap (λ n. 2 * n) (length-md5 message)
