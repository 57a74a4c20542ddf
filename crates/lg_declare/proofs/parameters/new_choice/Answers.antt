use Rattle.lg_declare.proofs.DeclaringLemmas.{gives, tells}
use Rattle.lg_declare.specs.Parameters.{new_choice}
use Rattle.lg_declare.specs.Template.{is_among}
use Rattle.std.proofs.Common.{ap, refl, sym, ◌∙◌}
use Rattle.lg_declare.proofs.parameters.new_choice.Goals as goal

pub returns-then-stands_in : goal.returns-then-stands_in
unfolding new_choice
returns-then-stands_in c = rw (sym (c.stands_in.ensures ∙ ap (is_among c.args.found.now) c.as_str.ensures.same) ∙ c.if-stands_in.true) (tells _ _ refl)

pub returns-else-stands_in : goal.returns-else-stands_in
unfolding new_choice
returns-else-stands_in c = rw (sym (c.stands_in.ensures ∙ ap (is_among c.args.found.now) c.as_str.ensures.same) ∙ c.if-stands_in.false) (gives _ _ refl)
