use Rattle.std.proofs.Common.{refl}
use Rattle.lg_calls.proofs.laws.a_stop_does_nothing_else.Goals as goal

pub returns : goal.returns
returns c s now = refl
