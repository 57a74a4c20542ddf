use Rattle.std.proofs.Common.{◌∙◌}
use Rattle.lg_desk.specs.Replay.{replay}
use Rattle.lg_desk.proofs.Replays.{replay-push}
use Rattle.lg_desk.proofs.laws.a_full_scheduler_stays_behind_its_entry.Goals as goal

pub returns : goal.returns
returns c = λ base journal e tasks is. replay-push base journal e ∙ c.a_full_scheduler_stays.ensures (replay base journal) e.now.0 e.request tasks is
