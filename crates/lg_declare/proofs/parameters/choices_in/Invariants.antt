use Rattle.std.proofs.Common.{◌≡◌, [], drop}
use Rattle.toml.specs.View.{items_view}
use Rattle.lg_declare.specs.Parameters.{choices_from}
use Rattle.lg_declare.proofs.parameters.choices_in.Given as goal

abbrev pub invariant-loop-item : goal.invariant-loop-item
invariant-loop-item l = choices_from [] (items_view l.items) ≡ choices_from l.choices.items (items_view (drop l.item-index l.items))
