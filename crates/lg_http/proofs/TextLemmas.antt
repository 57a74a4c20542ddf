-- A verb is a text.
use Rattle.std.proofs.Common.{◌≡◌, ℕ, ◌<◌, true, List, arith}
use Rattle.std.specs.Str.{IsUtf8}
use Rattle.std.proofs.lemmas.Bool.Decides.{nat_tests}
use Rattle.std.proofs.lemmas.List.Elements.{All-weaker}
use Rattle.std.proofs.lemmas.Str.{IsUtf8-from_ascii}
use Rattle.std.proofs.lemmas.Str.Ascii.{IsAscii-from_all}
use Rattle.httparse.specs.Grammar.{is_token_byte, IsToken}

token_is_ascii : (b : ℕ) → is_token_byte b ≡ true → b < 128
unfolding is_token_byte
token_is_ascii b token = grind (arith, nat_tests)

pub IsUtf8-from_token : (word : List ℕ) → IsToken word → IsUtf8 word
IsUtf8-from_token word token =
    IsUtf8-from_ascii word (IsAscii-from_all word (All-weaker (λ b. is_token_byte b ≡ true) (λ b. b < 128) token_is_ascii word token.1))
