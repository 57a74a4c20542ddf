use Rattle.std.proofs.Common.{◌≡◌, drop}
use Rattle.toml.specs.Data.{Data}
use Rattle.toml.specs.View.{items_view}
use Rattle.lg_declare.specs.Declaring.{ReadsEach}
use Rattle.lg_declare.specs.Reading.{Read, each_item}
use Rattle.lg_declare.proofs.LoopLemmas.{behind}
use Rattle.lg_declare.proofs.values.each_item.Given as goal

abbrev pub invariant-loop-item : goal.invariant-loop-item
invariant-loop-item g l =
    (due : Data → Read _) → ReadsEach (goal.F-post g l.read) due
    → each_item due (items_view l.items) ≡ behind l.all.items (each_item due (items_view (drop l.item-index l.items)))
