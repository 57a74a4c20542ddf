use Rattle.lg_plain.proofs.AddedLemmas.{numbers-added}
use Rattle.lg_plain.proofs.laws.known_tasks_keep_their_numbers.Goals as goal

pub returns : goal.returns
returns c = numbers-added
