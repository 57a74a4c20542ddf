use Rattle.lg_declare.proofs.DeclaringLemmas.{absent_key, present_key}
use Rattle.lg_declare.specs.Keys.{parameter_names}
use Rattle.lg_declare.proofs.commands.parameter_names.Goals as goal

pub returns-in-Some : goal.returns-in-Some
unfolding parameter_names
returns-in-Some c = rw (present_key _ _ _ c.get.ensures c.in-Some.is) c.keys_in.ensures

pub returns-in-None : goal.returns-in-None
unfolding parameter_names
returns-in-None c = rw (absent_key _ _ c.get.ensures c.in-None.is) c.new.ensures.items
