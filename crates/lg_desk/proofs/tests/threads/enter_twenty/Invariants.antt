use Rattle.lg_desk.specs.Desks.{IsAt}
use Rattle.lg_desk.proofs.tests.threads.enter_twenty.Given as goal

abbrev pub invariant-loop-size : goal.invariant-loop-size
invariant-loop-size g l = IsAt l.desk l.pass
