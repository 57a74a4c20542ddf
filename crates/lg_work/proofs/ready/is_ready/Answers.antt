use Rattle.std.proofs.Common.{rules}
use Rattle.lg_calls.specs.Work.Ready.{is_ready}
use Rattle.lg_work.proofs.ready.is_ready.Goals as goal

pub returns-then-is_status : goal.returns-then-is_status
unfolding is_ready
returns-then-is_status c = search rules

pub returns-else-is_status : goal.returns-else-is_status
unfolding is_ready
returns-else-is_status c = search rules
