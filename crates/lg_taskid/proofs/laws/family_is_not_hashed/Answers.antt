use Rattle.lg_taskid.proofs.Shape.{same_behind_family}
use Rattle.lg_taskid.proofs.laws.family_is_not_hashed.Goals as goal

pub returns : goal.returns
returns c = same_behind_family
