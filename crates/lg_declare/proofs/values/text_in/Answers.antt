use Rattle.lg_declare.proofs.DeclaringLemmas.{absent_key, present_key}
use Rattle.lg_declare.specs.Keys.{text_in}
use Rattle.std.proofs.Common.{ap, option_and_then, sym, ◌∙◌}
use Rattle.toml.specs.Data.{as_str}
use Rattle.lg_declare.proofs.values.text_in.Goals as goal

pub returns-in-Some : goal.returns-in-Some
unfolding text_in
returns-in-Some c = c.as_str.ensures ∙ ap (option_and_then as_str) (sym (present_key _ _ _ c.get.ensures c.in-Some.is))

pub returns-in-None : goal.returns-in-None
unfolding text_in
returns-in-None c = ap (option_and_then as_str) (sym (absent_key _ _ c.get.ensures c.in-None.is))
