use Rattle.lg_calls.proofs.SearchLemmas.{first-some, first-none}
use Rattle.lg_calls.proofs.laws.the_first_is_given.Goals as goal

pub returns-clause-given : goal.returns-clause-given
returns-clause-given c = first-some

pub returns-clause-none : goal.returns-clause-none
returns-clause-none c = first-none
