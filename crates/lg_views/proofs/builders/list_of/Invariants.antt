use Rattle.std.proofs.Common.{◌≡◌, map, take}
use Rattle.lg_json.specs.Tree.{tree_of}
use Rattle.lg_views.proofs.builders.list_of.Given as goal

abbrev pub invariant-loop-item : goal.invariant-loop-item
invariant-loop-item g l = map tree_of l.outs.items ≡ map g.T.Shown.tree (take l.item-index l.items)
