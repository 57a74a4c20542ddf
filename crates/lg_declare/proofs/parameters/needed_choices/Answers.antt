use Rattle.lg_declare.proofs.DeclaringLemmas.{absent_key, present_key, refuses}
use Rattle.std.proofs.Common.{refl}
use Rattle.lg_declare.proofs.parameters.needed_choices.Goals as goal

pub returns-in-Some : goal.returns-in-Some
returns-in-Some c = rw (present_key _ _ _ c.get.ensures c.in-Some.is) c.choices_of.ensures

pub returns-in-None : goal.returns-in-None
returns-in-None c = rw (absent_key _ _ c.get.ensures c.in-None.is) (refuses _ _ _ c.bad_value.ensures refl)
