use Rattle.std.proofs.Common.{◌≡◌, map, take}
use Rattle.lg_views.specs.Fields.{fields_in}
use Rattle.lg_views.proofs.builders.object_of.Given as goal

abbrev pub invariant-loop-name : goal.invariant-loop-name
invariant-loop-name g l = fields_in l.object ≡ map (λ pair. (pair.0, g.T.Shown.tree pair.1)) (take l.name-index l.pairs)
