use Rattle.lg_declare.proofs.DeclaringLemmas.{goes_on, seen_passed, stays}
use Rattle.lg_declare.specs.Families.{declared_in}
use Rattle.lg_declare.proofs.declarations.Declarations.read.Goals as goal

pub returns-in_err-table : goal.returns-in_err-table
unfolding declared_in
returns-in_err-table c = seen_passed _ _ _ _ (stays _ _ _ c.in_err-table.ensures) c.from_residual.ensures.1

pub returns-in_err-families : goal.returns-in_err-families
unfolding declared_in
returns-in_err-families c = goes_on _ _ _ _ c.in_ok-table.ensures (seen_passed _ _ _ _ c.in_err-families.ensures c.from_residual-in_err-families.ensures.1)

pub returns : goal.returns
unfolding declared_in
returns c = goes_on _ _ _ _ c.in_ok-table.ensures c.in_ok-families.ensures
