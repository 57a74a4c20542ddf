use Rattle.lg_declare.specs.Parameters.{with_choices}
use Rattle.std.proofs.Common.{sym, ◌∙◌}
use Rattle.lg_declare.proofs.parameters.with_choices.Goals as goal

pub returns-then-is_choice : goal.returns-then-is_choice
unfolding with_choices
returns-then-is_choice c = rw (sym c.is_choice.ensures ∙ c.if-is_choice.true) c.needed_choices.ensures

pub returns-else-is_choice : goal.returns-else-is_choice
unfolding with_choices
returns-else-is_choice c = rw (sym c.is_choice.ensures ∙ c.if-is_choice.false) c.no_choices.ensures
