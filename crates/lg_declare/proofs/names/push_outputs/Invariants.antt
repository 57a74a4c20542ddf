use Rattle.std.proofs.Common.{◌≡◌, ◌++◌}
use Rattle.lg_declare.specs.Names.{output_names}
use Rattle.lg_declare.proofs.names.push_outputs.Given as goal

abbrev pub invariant-loop-place : goal.invariant-loop-place
invariant-loop-place l = l.names.items ≡ l.initial.names.items ++ output_names l.place-counter
