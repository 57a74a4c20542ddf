use Rattle.std.proofs.Common.{ap, option_and_then, sym, ◌∙◌}
use Rattle.std.specs.Option.{option_copied}
use Rattle.toml.specs.Data.{get}
use Rattle.toml.specs.View.{view}
use Rattle.lg_declare.proofs.commands.family_named.Goals as goal

pub returns-in-Some : goal.returns-in-Some
returns-in-Some c = c.get.ensures ∙ ap (option_and_then (λ task. get task (view c.args.families.now))) (sym (ap option_copied c.in-Some.is) ∙ c.text_in.ensures)

pub returns-in-None : goal.returns-in-None
returns-in-None c = ap (option_and_then (λ task. get task (view c.args.families.now))) (sym (ap option_copied c.in-None.is) ∙ c.text_in.ensures)
