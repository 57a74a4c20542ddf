use Rattle.lg_calls.proofs.SearchLemmas.{trivial-needs_nothing}
use Rattle.lg_calls.proofs.laws.a_trivial_walk_needs_nothing.Goals as goal

pub returns : goal.returns
returns c = trivial-needs_nothing
