use Rattle.std.proofs.Common.{◌≡◌, drop}
use Rattle.serde_json.specs.View.{items_view}
use Rattle.lg_json.specs.Fields.{each_item, text_of, checked}
use Rattle.lg_json.proofs.lists.check_texts.Given as goal

abbrev pub invariant-loop-item : goal.invariant-loop-item
invariant-loop-item l = checked (each_item text_of (items_view l.items)) ≡ checked (each_item text_of (items_view (drop l.item-index l.items)))
