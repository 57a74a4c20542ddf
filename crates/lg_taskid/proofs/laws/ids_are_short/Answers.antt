use Rattle.lg_taskid.proofs.Shape.{length-task_id_of}
use Rattle.lg_taskid.proofs.laws.ids_are_short.Goals as goal

pub returns : goal.returns
returns c = length-task_id_of
