use Rattle.std.proofs.Common.{◌≡◌}
use Rattle.serde_json.specs.View.{items_view}
use Rattle.lg_json.specs.Fields.{each_item}
use Rattle.lg_calls.specs.Infos.{pair_of}
use Rattle.lg_calls.proofs.InfoLemmas.{joined}
use Rattle.lg_calls.proofs.infos.items_told.Given as goal

abbrev pub invariant-loop-item : goal.invariant-loop-item
invariant-loop-item l =
    each_item pair_of (items_view l.fn.items.items) ≡ joined l.infos (each_item pair_of (items_view l.item-iterator.rest.items))
