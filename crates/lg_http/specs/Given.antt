-- The bytes of one read. This project's own.
use Rattle.std.specs.Prelude.{◌≡◌, ℕ, ◌<◌, List, [], length}
use Rattle.lg_io.specs.declared.source.ReadStep.{ReadStep}
use Rattle.lg_io.specs.declared.source.ReadStep.TheVariants.{Bytes, End, Quiet, Failed}

-- got is what a read of this answer gave
abbrev pub IsGiven : ReadStep → List ℕ → Type 0
IsGiven (Bytes count) got = (length got ≡ count) × (0 < count)
IsGiven End got = got ≡ []
IsGiven Quiet got = got ≡ []
IsGiven Failed got = got ≡ []

-- P, where a read gave no bytes
abbrev pub OnNothing : ReadStep → Type 0 → Type 0
OnNothing (Bytes count) P = Unit {0}
OnNothing End P = P
OnNothing Quiet P = P
OnNothing Failed P = P
