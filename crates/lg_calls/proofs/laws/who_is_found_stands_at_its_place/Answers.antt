use Rattle.lg_calls.proofs.LookLemmas.{task_at-place_of}
use Rattle.lg_calls.proofs.laws.who_is_found_stands_at_its_place.Goals as goal

pub returns : goal.returns
returns c id places = task_at-place_of id places
