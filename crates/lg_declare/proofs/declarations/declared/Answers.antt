use Rattle.lg_declare.proofs.DeclaringLemmas.{goes_on, stopped}
use Rattle.lg_declare.proofs.DocumentLemmas.{in_table}
use Rattle.lg_declare.specs.Families.{declared}
use Rattle.toml.proofs.Views.{view-Table}
use Rattle.lg_declare.proofs.declarations.declared.Goals as goal

pub returns-in_err-only_keys : goal.returns-in_err-only_keys
unfolding declared
returns-in_err-only_keys c = stopped _ _ _ _ c.in_err-only_keys.ensures c.from_residual.ensures.1

pub returns : goal.returns
unfolding declared
returns c = goes_on _ _ _ _ c.in_ok-only_keys.ensures (in_table _ _ _ (view-Table c.args.table) c.families_at.ensures)
