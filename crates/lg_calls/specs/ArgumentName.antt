-- The bytes of the name that a refusal speaks of.
use Rattle.std.specs.Prelude.{ℕ, List}
use Rattle.lg_calls.specs.declared.refusal.Named.{Named}
use Rattle.lg_calls.specs.declared.refusal.Named.TheVariants.{Fixed, Given}

abbrev pub bytes_of : Named → List ℕ
bytes_of (Fixed name) = name.now
bytes_of (Given name) = name
