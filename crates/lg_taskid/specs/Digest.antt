-- The digest of which ids are made: MD5 (RFC 1321), as lower-case hexadecimal digits.
use Rattle.std.specs.Prelude.{ℕ, List}
use Rattle.hex.specs.Hex.{encode_lower}
use Rattle.md5.specs.Md5.{md5}

-- the 32 digits of a message's MD5
abbrev pub md5_digits : List ℕ → List ℕ
md5_digits message = encode_lower (md5 message)
