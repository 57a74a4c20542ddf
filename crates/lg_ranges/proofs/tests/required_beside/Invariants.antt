use Rattle.std.proofs.Common.{◌≡◌, vec_len}
use Rattle.lg_ranges.proofs.tests.required_beside.Given as goal

abbrev pub invariant-loop-place : goal.invariant-loop-place
invariant-loop-place l = vec_len l.missing ≡ l.place
