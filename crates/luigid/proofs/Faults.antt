-- Counts of faults that stayed as they were.
use Rattle.std.proofs.Common.{◌≡◌, ℕ, ◌<◌, arith, inl, inr}
use Rattle.std.proofs.lemmas.Bool.{cases_lt}
use Rattle.lg_io.specs.Cause.{HasCause}

-- a call that didn't fail leaves the count as it was
pub unmoved : (before after : ℕ) (failed : Type 0) → HasCause before after failed → (failed → ⊥) → after ≡ before
unmoved before after failed cause calm =
    elim (cases_lt before after) [ inl rose ↦ absurd (calm (cause.rises.1 rose)) | inr stays ↦ omega (arith, stays, cause.never_falls) ]

-- where the count is as it was nothing failed
pub nothing_failed : (before after : ℕ) (failed : Type 0) → after ≡ before → (failed → ⊥) → HasCause before after failed
nothing_failed before after failed same calm = record {
  never_falls = omega (arith, same);
  rises = ((λ it. absurd (calm it)), (λ rose. absurd (omega (arith, rose, same))));
}

-- where the count rose in the last call it failed
pub failed_at_last : (before between after : ℕ) (failed call : Type 0) → between ≡ before → HasCause between after call → call → failed → HasCause before after failed
failed_at_last before between after failed call same cause here it =
    let rose : between < after = cause.rises.0 here in
    record { never_falls = omega (arith, rose, same); rises = ((λ _. omega (arith, rose, same)), (λ _. it)) }
