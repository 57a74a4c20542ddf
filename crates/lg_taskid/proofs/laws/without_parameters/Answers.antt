use Rattle.lg_taskid.proofs.Shape.{task_id_of-none}
use Rattle.lg_taskid.proofs.laws.without_parameters.Goals as goal

pub returns : goal.returns
returns c = task_id_of-none
