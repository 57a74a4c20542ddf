use Rattle.std.proofs.Common.{◌≡◌, ◌&&◌, not, map, drop}
use Rattle.std.specs.List.{list_all}
use Rattle.lg_calls.specs.Order.{are_distinct}
use Rattle.lg_snapshot.proofs.SetLemmas.{has}
use Rattle.lg_snapshot.proofs.order.are_distinct.Given as goal

abbrev pub invariant-loop-item : goal.invariant-loop-item
invariant-loop-item g l =
    are_distinct (map g.T.Named.id l.items)
    ≡ (list_all (λ id. not (has l.seen.keys id)) (map g.T.Named.id (drop l.item-index l.items)) && are_distinct (map g.T.Named.id (drop l.item-index l.items)))
