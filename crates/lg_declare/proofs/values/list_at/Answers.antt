use Rattle.lg_declare.proofs.DeclaringLemmas.{absent_key, present_key}
use Rattle.lg_declare.specs.Keys.{list_at, list_of}
use Rattle.std.proofs.Common.{ap, option_and_then, sym, ◌∙◌}
use Rattle.toml.specs.Data.{as_array}
use Rattle.lg_declare.proofs.values.list_at.Goals as goal

pub returns-in-Some : goal.returns-in-Some
unfolding list_at
returns-in-Some c = c.items_of.ensures ∙ ap (λ at. list_of (option_and_then as_array at)) (sym (present_key _ _ _ c.get.ensures c.in-Some.is))

pub returns-in-None : goal.returns-in-None
unfolding list_at
returns-in-None c = ap (λ at. list_of (option_and_then as_array at)) (sym (absent_key _ _ c.get.ensures c.in-None.is))
