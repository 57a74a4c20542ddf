use Rattle.std.proofs.Common.{◌≡◌, true, refl}
use Rattle.lg_calls.specs.Method.{methods}
use Rattle.lg_calls.proofs.MethodLemmas.{apart, own_name, no_name}
use Rattle.lg_calls.proofs.laws.names_are_of_one_method.Goals as goal

names_differ : apart (λ row. row.0) methods ≡ true
unfolding methods
names_differ = refl

pub returns-clause-own : goal.returns-clause-own
returns-clause-own c = own_name (λ row. row.0) methods names_differ

pub returns-clause-others : goal.returns-clause-others
returns-clause-others c = no_name (λ row. row.0) methods
