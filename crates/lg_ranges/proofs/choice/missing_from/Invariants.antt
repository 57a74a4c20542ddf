use Rattle.std.proofs.Common.{◌≡◌, ◌++◌, drop}
use Rattle.lg_ranges.specs.Required.{missing_points}
use Rattle.lg_ranges.proofs.RequiredLemmas.{due}
use Rattle.lg_ranges.proofs.choice.missing_from.Given as goal

abbrev pub invariant-loop-place : goal.invariant-loop-place
invariant-loop-place l = l.numbers.items ++ due l.first l.place (drop l.place l.missing) ≡ missing_points l.first l.missing
