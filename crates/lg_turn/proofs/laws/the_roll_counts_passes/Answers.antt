use Rattle.lg_turn.proofs.Numbers.{roll_counts}
use Rattle.lg_turn.proofs.laws.the_roll_counts_passes.Goals as goal

pub returns : goal.returns
returns g c = let k = g.V.Keeps in λ callers base s. roll_counts k.items k.number k.base callers base s
