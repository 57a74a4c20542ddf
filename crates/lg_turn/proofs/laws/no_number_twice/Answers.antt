use Rattle.lg_turn.proofs.Numbers.{number_once}
use Rattle.lg_turn.proofs.laws.no_number_twice.Goals as goal

pub returns : goal.returns
returns g c = let k = g.V.Keeps in λ callers base s. number_once k.items k.number k.base callers base s
