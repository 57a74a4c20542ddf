use Rattle.std.proofs.Common.{rules}
use Rattle.lg_calls.specs.Work.Again.{given_again}
use Rattle.lg_work.proofs.again.given_again.Goals as goal

pub returns-in-Some : goal.returns-in-Some
unfolding given_again
returns-in-Some c = search rules

pub returns-in-None : goal.returns-in-None
unfolding given_again
returns-in-None c = search rules
