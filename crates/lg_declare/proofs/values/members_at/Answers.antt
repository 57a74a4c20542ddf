use Rattle.lg_declare.proofs.DeclaringLemmas.{right, wrong}
use Rattle.std.proofs.Common.{ap, option_map, sym, ◌∙◌}
use Rattle.toml.specs.View.{table_view}
use Rattle.lg_declare.proofs.values.members_at.Goals as goal

pub returns-in-Some : goal.returns-in-Some
returns-in-Some c = right _ _ _ (sym c.as_table.ensures ∙ ap (option_map (λ table. table_view table.now)) c.in-Some.is)

pub returns-in-None : goal.returns-in-None
returns-in-None c = wrong _ _ _ c.bad_value.ensures (sym c.as_table.ensures ∙ ap (option_map (λ table. table_view table.now)) c.in-None.is)
