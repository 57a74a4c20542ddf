use Rattle.std.proofs.Common.{◌≡◌, ◌∷◌, take}
use Rattle.lg_plain.proofs.adding.wanting.ids_wanted.Given as goal

abbrev pub invariant-loop-dep : goal.invariant-loop-dep
invariant-loop-dep l = l.ids.items ≡ l.task.id ∷ take l.dep-index l.task.deps
