use Rattle.lg_turn.proofs.Shares.{one_holder}
use Rattle.lg_turn.proofs.laws.one_at_a_time.Goals as goal

pub returns : goal.returns
returns g c = one_holder g.V.Keeps.items g.V.Keeps.number g.V.Keeps.base
