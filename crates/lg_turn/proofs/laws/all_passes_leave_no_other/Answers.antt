use Rattle.lg_turn.proofs.Numbers.{no_other}
use Rattle.lg_turn.proofs.laws.all_passes_leave_no_other.Goals as goal

pub returns : goal.returns
returns g c = let k = g.V.Keeps in λ callers base s. no_other k.items k.number k.base callers base s
