use Rattle.lg_taskid.proofs.Shape.{take-task_id_of}
use Rattle.lg_taskid.proofs.laws.family_comes_first.Goals as goal

pub returns : goal.returns
returns c = take-task_id_of
