-- What callers may cite of the proofs of this crate.
pub use Rattle.lg_calls.proofs.StepLemmas.{begun_by, step_by}
pub use Rattle.lg_calls.proofs.ValidLemmas.{state-rise}
