use Rattle.lg_turn.proofs.Numbers.{next_new}
use Rattle.lg_turn.proofs.laws.the_next_number_is_new.Goals as goal

pub returns : goal.returns
returns g c = let k = g.V.Keeps in λ callers base s i n v. next_new k.items k.number k.base callers base s i n v
