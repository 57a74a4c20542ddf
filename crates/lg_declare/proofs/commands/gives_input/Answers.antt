use Rattle.lg_declare.specs.Keys.{gives_input, has_outputs}
use Rattle.std.proofs.Common.{ap, nat_lt, option_map, sym, ◌∙◌}
use Rattle.toml.specs.View.{view}
use Rattle.lg_declare.proofs.commands.gives_input.Goals as goal

pub returns-in-Some : goal.returns-in-Some
unfolding gives_input
returns-in-Some c = ap (λ n. nat_lt 0 n) c.output_count.ensures ∙ ap has_outputs (sym (ap (option_map (λ v. view v.now)) c.in-Some.is) ∙ c.family_named.ensures)

pub returns-in-None : goal.returns-in-None
unfolding gives_input
returns-in-None c = ap has_outputs (sym (ap (option_map (λ v. view v.now)) c.in-None.is) ∙ c.family_named.ensures)
