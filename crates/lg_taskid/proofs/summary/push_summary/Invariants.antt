use Rattle.std.proofs.Common.{◌≡◌, ◌++◌, take}
use Rattle.std.specs.Prelude.{string_bytes}
use Rattle.lg_taskid.proofs.Summaries.{all_shown}
use Rattle.lg_taskid.proofs.summary.push_summary.Given as goal

abbrev pub invariant-loop-place : goal.invariant-loop-place
invariant-loop-place l = string_bytes l.id ≡ string_bytes l.fn.id ++ all_shown (take l.place l.shown)
