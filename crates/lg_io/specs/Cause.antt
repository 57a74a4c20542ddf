-- When a call may answer that it failed. This project's own.
use Rattle.std.specs.Prelude.{◌≡◌, ℕ, ◌<◌, ◌≤◌, ◌↔◌, Bool, true, false}

-- a count of faults never falls, and it rises in just those calls that answer that they failed
pub record HasCause (before after : ℕ) (failed : Type 0) : Type 0 where
  pub never_falls : before ≤ after
  pub rises : failed ↔ (before < after)

-- a call that is to fail does so and counts nothing, and any other has its cause
abbrev pub FailsBy : Bool → ℕ → ℕ → Type 0 → Type 0
FailsBy true before after failed = failed × (after ≡ before)
FailsBy false before after failed = HasCause before after failed
