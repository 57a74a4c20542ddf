use Rattle.std.proofs.Common.{◌≡◌, map, take}
use Rattle.lg_json.specs.Tree.{tree_of}
use Rattle.lg_views.specs.Lent.{lent}
use Rattle.lg_views.proofs.LimitLemmas.{listed_limit}
use Rattle.lg_views.proofs.consumers.resource_list.Given as goal

abbrev pub invariant-loop-name : goal.invariant-loop-name
invariant-loop-name g l = map tree_of l.outs.items ≡ map (listed_limit (lent l.tasks)) (take l.name-index l.limits)
