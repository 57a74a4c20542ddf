use Rattle.lg_declare.proofs.DeclaringLemmas.{gives}
use Rattle.lg_declare.specs.Parameters.{late_default}
use Rattle.std.proofs.Common.{refl, sym, ◌∙◌}
use Rattle.lg_declare.proofs.parameters.late_default.Goals as goal

pub returns-then-is_choice : goal.returns-then-is_choice
unfolding late_default
returns-then-is_choice c = rw (sym c.is_choice.ensures ∙ c.if-is_choice.true) c.default_in.ensures

pub returns-else-is_choice : goal.returns-else-is_choice
unfolding late_default
returns-else-is_choice c = rw (sym c.is_choice.ensures ∙ c.if-is_choice.false) (gives _ _ refl)
