use Rattle.lg_turn.proofs.Numbers.{passes_few}
use Rattle.lg_turn.proofs.laws.never_more_than_callers.Goals as goal

pub returns : goal.returns
returns g c = let k = g.V.Keeps in λ callers base s. passes_few k.items k.number k.base callers base s
