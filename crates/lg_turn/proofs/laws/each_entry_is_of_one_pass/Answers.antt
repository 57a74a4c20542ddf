use Rattle.lg_turn.proofs.Shares.{each_entry_once}
use Rattle.lg_turn.proofs.laws.each_entry_is_of_one_pass.Goals as goal

pub returns : goal.returns
returns g c = each_entry_once g.V.Keeps.number
