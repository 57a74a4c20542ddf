use Rattle.lg_declare.proofs.DeclaringLemmas.{right, wrong}
use Rattle.std.proofs.Common.{ap, sym, ◌∙◌}
use Rattle.std.specs.Option.{option_copied}
use Rattle.lg_declare.proofs.values.text_at.Goals as goal

pub returns-in-Some : goal.returns-in-Some
returns-in-Some c = right _ _ _ (sym c.as_str.ensures ∙ ap option_copied c.in-Some.is)

pub returns-in-None : goal.returns-in-None
returns-in-None c = wrong _ _ _ c.bad_value.ensures (sym c.as_str.ensures ∙ ap option_copied c.in-None.is)
