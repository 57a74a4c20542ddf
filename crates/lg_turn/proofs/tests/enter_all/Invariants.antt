use Rattle.lg_turn.specs.Passes.{IsAway, IsPassOf}
use Rattle.lg_turn.proofs.tests.enter_all.Given as goal

abbrev pub invariant-loop-count : goal.invariant-loop-count
invariant-loop-count g l = IsPassOf l.turn l.pass × IsAway l.pass
