use Rattle.std.proofs.Common.{◌≡◌, Some}
use Rattle.serde_json.specs.View.{items_view}
use Rattle.lg_snapshot.specs.Kinds.{each_item}
use Rattle.lg_snapshot.proofs.kinds.read_items.Given as goal

abbrev pub invariant-loop-item : goal.invariant-loop-item
invariant-loop-item g l = each_item g.T.Spelled.kind (items_view l.yielded) ≡ Some l.read
