use Rattle.lg_declare.proofs.DeclaringLemmas.{absent_key, gives, present_key, refuses}
use Rattle.lg_declare.specs.Requirements.{declared_family}
use Rattle.std.proofs.Common.{ap}
use Rattle.lg_declare.proofs.requirements.declared_family.Goals as goal

pub returns-in-Some : goal.returns-in-Some
returns-in-Some c = gives _ _ (ap (declared_family c.args.task.now) (present_key _ _ _ c.get.ensures c.in-Some.is))

pub returns-in-None : goal.returns-in-None
returns-in-None c = refuses _ _ _ c.unknown_family.ensures (ap (declared_family c.args.task.now) (absent_key _ _ c.get.ensures c.in-None.is))
