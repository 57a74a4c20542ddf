use Rattle.lg_turn.proofs.Numbers.{next_unentered}
use Rattle.lg_turn.proofs.laws.the_next_number_has_no_entry.Goals as goal

pub returns : goal.returns
returns g c = let k = g.V.Keeps in λ callers base s. next_unentered k.items k.number k.base callers base s
