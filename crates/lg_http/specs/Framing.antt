-- What is read of the fields of a head. This project's own.
use Rattle.std.specs.Prelude.{◌≡◌, ℕ, ◌-◌, ◌^◌, min, List, IsTrue, IsFalse}
use Rattle.http1.specs.Fields.{Header}
use Rattle.lg_http.specs.declared.framing.BodyLength.{BodyLength}
use Rattle.lg_http.specs.declared.framing.BodyLength.TheVariants.{Absent, Bytes, Unclear}
use Rattle.lg_http.specs.Fields.{is_framed_in, is_sized_in, length_in}

-- the length that the fields tell, which stands still at the end of 64 bits
abbrev pub Tells : BodyLength → List Header → Type 0
Tells Absent headers = IsTrue (is_framed_in headers) × IsFalse (is_sized_in headers) × (length_in headers ≡ 0)
Tells (Bytes n) headers = IsTrue (is_framed_in headers) × IsTrue (is_sized_in headers) × (n ≡ min (length_in headers) (2 ^ 64 - 1))
Tells Unclear headers = IsFalse (is_framed_in headers)
