use Rattle.lg_declare.proofs.DeclaringLemmas.{gives}
use Rattle.lg_declare.specs.Parameters.{early_default}
use Rattle.std.proofs.Common.{refl, sym, ◌∙◌}
use Rattle.lg_declare.proofs.parameters.early_default.Goals as goal

pub returns-then-is_choice : goal.returns-then-is_choice
unfolding early_default
returns-then-is_choice c = rw (sym c.is_choice.ensures ∙ c.if-is_choice.true) (gives _ _ refl)

pub returns-else-is_choice : goal.returns-else-is_choice
unfolding early_default
returns-else-is_choice c = rw (sym c.is_choice.ensures ∙ c.if-is_choice.false) c.default_in.ensures
