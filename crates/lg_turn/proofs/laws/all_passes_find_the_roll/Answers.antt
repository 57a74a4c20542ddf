use Rattle.lg_turn.proofs.Telling.{finds_the_roll}
use Rattle.lg_turn.proofs.laws.all_passes_find_the_roll.Goals as goal

pub returns : goal.returns
returns g c = let k = g.V.Keeps in λ callers base s. finds_the_roll k.items k.number k.base callers base s
