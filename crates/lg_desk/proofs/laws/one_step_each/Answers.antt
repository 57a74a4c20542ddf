use Rattle.lg_desk.proofs.Replays.{replay-push, answered-push}
use Rattle.lg_desk.proofs.laws.one_step_each.Goals as goal

pub returns : goal.returns
returns c = λ base journal e. (replay-push base journal e, answered-push base journal e)
