use Rattle.std.proofs.Common.{◌≡◌, ℕ, ◌+◌, ◌≤◌, List, ◌++◌, Ok, length}
use Rattle.std.specs.Prelude.{vec_capacity}
use Rattle.serde_json.specs.View.{items_view}
use Rattle.lg_json.specs.Fields.{each_item, text_of}
use Rattle.lg_json.proofs.lists.move_texts.Given as goal

abbrev pub invariant-loop-item : goal.invariant-loop-item
invariant-loop-item l =
    (left : List (List ℕ))
    × (each_item text_of (items_view l.item-iterator.rest.items) ≡ Ok left)
    × (each_item text_of (items_view l.fn.items.items) ≡ Ok (l.texts.items ++ left))
    × (length l.texts.items + length left ≤ vec_capacity l.texts)
