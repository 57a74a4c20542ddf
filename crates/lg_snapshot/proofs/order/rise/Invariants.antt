use Rattle.std.proofs.Common.{◌≡◌, ◌∷◌, drop}
use Rattle.lg_calls.specs.Order.{all_pairs}
use Rattle.lg_snapshot.proofs.order.rise.Given as goal

abbrev pub invariant-loop-item : goal.invariant-loop-item
invariant-loop-item g l = all_pairs g.T.Rising.before (l.last ∷ drop l.item-index l.others) ≡ all_pairs g.T.Rising.before l.fn.items
