-- Readings of what has to stand for something.
use Rattle.std.proofs.Common.{◌≡◌, ℕ, List, Option, Some, None, Result, refl}
use Rattle.lg_calls.specs.Reading.{Reads}
use Rattle.lg_calls.specs.Ranges.{known, known_as}
use Rattle.lg_calls.specs.declared.arguments.Arguments.{Arguments}
use Rattle.lg_calls.specs.declared.refusal.PayloadFault.{PayloadFault}

known_is : {A : Type 0} (name : List ℕ) (answer : Option A) (before : Arguments) → Reads (known name answer) before before (known_as name answer)
unfolding known Reads
known_is name (Some x) before = refl
known_is name None before = refl

-- what has to stand for something
pub known_reads : {A : Type 0} (name : List ℕ) (answer : Option A) (before : Arguments) (result : Result A PayloadFault)
    → result ≡ known_as name answer → Reads (known name answer) before before result
known_reads name answer before result is = rw is (known_is name answer before)
