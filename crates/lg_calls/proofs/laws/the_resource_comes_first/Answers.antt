use Rattle.lg_calls.proofs.ReadingLemmas.{first_refused}
use Rattle.lg_calls.proofs.laws.the_resource_comes_first.Goals as goal

pub returns : goal.returns
returns c fields refusal is = first_refused _ _ fields refusal is
