use Rattle.std.proofs.Common.{◌≡◌, map, take}
use Rattle.lg_views.specs.Fields.{fields_in}
use Rattle.lg_views.specs.Lent.{lent}
use Rattle.lg_views.proofs.LimitLemmas.{used_limit}
use Rattle.lg_views.proofs.usage.resources.Given as goal

abbrev pub invariant-loop-name : goal.invariant-loop-name
invariant-loop-name g l = fields_in l.object ≡ map (used_limit (lent l.tasks)) (take l.name-index l.limits)
