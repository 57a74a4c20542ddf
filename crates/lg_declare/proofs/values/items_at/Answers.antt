use Rattle.lg_declare.proofs.DeclaringLemmas.{right, wrong}
use Rattle.std.proofs.Common.{Some, ap, option_map, sym, ◌∙◌}
use Rattle.toml.specs.View.{array_view, items_view}
use Rattle.lg_declare.proofs.values.items_at.Goals as goal

pub returns-in-Some : goal.returns-in-Some
returns-in-Some c = right _ _ _ (sym c.as_array.ensures ∙ ap (option_map (λ items. array_view items.now)) c.in-Some.is ∙ ap (λ items. Some (items_view items)) (sym c.deref.ensures.value))

pub returns-in-None : goal.returns-in-None
returns-in-None c = wrong _ _ _ c.bad_value.ensures (sym c.as_array.ensures ∙ ap (option_map (λ items. array_view items.now)) c.in-None.is)
