use Rattle.std.proofs.Common.{◌≡◌, ◌++◌, take}
use Rattle.lg_declare.specs.Names.{input_names}
use Rattle.lg_declare.proofs.names.push_inputs.Given as goal

abbrev pub invariant-loop-place : goal.invariant-loop-place
invariant-loop-place l = l.names.items ≡ l.initial.names.items ++ input_names (take l.place-counter l.inputs)
