-- What callers may cite of the proofs of this crate.
pub use Rattle.lg_http.proofs.Readings.{bad_status}
