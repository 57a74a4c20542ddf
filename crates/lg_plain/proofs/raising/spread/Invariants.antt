use Rattle.std.proofs.Common.{take}
use Rattle.lg_calls.specs.Raising.{goes_to}
use Rattle.lg_plain.specs.Walking.{Marks}
use Rattle.lg_plain.proofs.raising.spread.Given as goal

abbrev pub invariant-loop-dep : goal.invariant-loop-dep
invariant-loop-dep l = Marks l.tasks (goes_to l.fn.priority (take l.dep-index l.dep-items)) l.initial.walk l.walk
