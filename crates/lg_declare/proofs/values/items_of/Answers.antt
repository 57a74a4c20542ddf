use Rattle.lg_declare.proofs.LoopLemmas.{list_seen}
use Rattle.lg_declare.specs.Keys.{list_of}
use Rattle.std.proofs.Common.{ap, map, option_map, sym, ◌∙◌}
use Rattle.toml.specs.View.{array_view, view}
use Rattle.lg_declare.proofs.values.items_of.Goals as goal

pub returns-in-Some : goal.returns-in-Some
returns-in-Some c = ap (map view) c.deref.ensures.value ∙ list_seen _ ∙ ap list_of (sym (ap (option_map (λ items. array_view items.now)) c.in-Some.is) ∙ c.as_array.ensures)

pub returns-in-None : goal.returns-in-None
returns-in-None c = ap list_of (sym (ap (option_map (λ items. array_view items.now)) c.in-None.is) ∙ c.as_array.ensures)
