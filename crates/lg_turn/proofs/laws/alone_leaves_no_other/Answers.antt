use Rattle.lg_turn.proofs.Numbers.{no_other_beside}
use Rattle.lg_turn.proofs.laws.alone_leaves_no_other.Goals as goal

pub returns : goal.returns
returns g c = let k = g.V.Keeps in λ callers base s. no_other_beside k.items k.number k.base callers base s
