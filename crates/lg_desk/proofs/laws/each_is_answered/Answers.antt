use Rattle.lg_desk.proofs.Replays.{entries_answered}
use Rattle.lg_desk.proofs.laws.each_is_answered.Goals as goal

pub returns : goal.returns
returns c = entries_answered
