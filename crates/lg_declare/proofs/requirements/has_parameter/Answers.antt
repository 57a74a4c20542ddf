use Rattle.lg_declare.proofs.DeclaringLemmas.{absent_key, present_key}
use Rattle.lg_declare.specs.Keys.{has_parameter}
use Rattle.std.proofs.Common.{ap, is_some, option_and_then, sym, ◌∙◌}
use Rattle.toml.specs.Data.{get}
use Rattle.lg_declare.proofs.requirements.has_parameter.Goals as goal

pub returns-in-Some : goal.returns-in-Some
unfolding has_parameter
returns-in-Some c = c.is_there.ensures ∙ ap (λ at. is_some (option_and_then (get c.args.name.now) at)) (sym (present_key _ _ _ c.get.ensures c.in-Some.is))

pub returns-in-None : goal.returns-in-None
unfolding has_parameter
returns-in-None c = ap (λ at. is_some (option_and_then (get c.args.name.now) at)) (sym (absent_key _ _ c.get.ensures c.in-None.is))
