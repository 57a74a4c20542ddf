-- A write of a whole text to a sink, with all that it tells. This project's own.
use Rattle.std.specs.Prelude.{◌≡◌, ℕ, List, Option, Result, IsErr}
use Rattle.lg_base.specs.declared.faults.Failed.{Failed}
use Rattle.lg_io.specs.Cause.{HasCause}
use Rattle.lg_io.specs.Rest.{Rest}
use Rattle.lg_io.specs.Sink.{WritesAll}

-- the sink took the text, or a front of it where the write failed
pub record Writes {S : Type 0} (taken : S → Option (List ℕ)) (faults : S → ℕ) (others : S → Rest) (old new : S) (text : List ℕ) (outcome : Result (Unit {0}) Failed) : Type 0 where
  pub told : WritesAll (taken old) (taken new) text outcome
  pub cause : HasCause (faults old) (faults new) (IsErr outcome)
  pub rest : others new ≡ others old
