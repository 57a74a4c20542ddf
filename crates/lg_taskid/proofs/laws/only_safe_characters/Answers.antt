use Rattle.lg_taskid.proofs.Shape.{safe_behind_family}
use Rattle.lg_taskid.proofs.laws.only_safe_characters.Goals as goal

pub returns : goal.returns
returns c = safe_behind_family
