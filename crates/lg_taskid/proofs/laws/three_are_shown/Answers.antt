use Rattle.lg_taskid.proofs.Shape.{summary_of-append}
use Rattle.lg_taskid.proofs.laws.three_are_shown.Goals as goal

pub returns : goal.returns
returns c = summary_of-append
