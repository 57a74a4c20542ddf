use Rattle.std.proofs.Common.{ap, option_map, sym, ◌∙◌}
use Rattle.toml.specs.View.{table_view}
use Rattle.lg_declare.proofs.commands.keys_in.Goals as goal

pub returns-in-Some : goal.returns-in-Some
returns-in-Some c = rw (sym c.as_table.ensures ∙ ap (option_map (λ table. table_view table.now)) c.in-Some.is) c.key_names.ensures

pub returns-in-None : goal.returns-in-None
returns-in-None c = rw (sym c.as_table.ensures ∙ ap (option_map (λ table. table_view table.now)) c.in-None.is) c.new.ensures.items
