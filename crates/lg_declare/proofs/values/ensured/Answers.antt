use Rattle.lg_declare.proofs.DeclaringLemmas.{gives, refuses}
use Rattle.std.proofs.Common.{refl}
use Rattle.lg_declare.proofs.values.ensured.Goals as goal

pub returns-then-holds : goal.returns-then-holds
returns-then-holds c = rw c.if-holds.true (gives _ _ refl)

pub returns-else-holds : goal.returns-else-holds
returns-else-holds c = rw c.if-holds.false (refuses _ _ _ c.bad_value.ensures refl)
