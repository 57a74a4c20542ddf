use Rattle.lg_plain.proofs.CandidateLawLemmas.{begins-fits, begins-trivial}
use Rattle.lg_plain.proofs.work_laws.who_begins_to_run_fits.Goals as goal

pub returns-clause-fits : goal.returns-clause-fits
returns-clause-fits c = begins-fits c.who_walks_by_rank.ensures c.numbers_keep_rising.ensures c.the_first_is_given.ensures.given c.a_trivial_walk_needs_nothing.ensures

pub returns-clause-trivial : goal.returns-clause-trivial
returns-clause-trivial c = begins-trivial c.who_walks_by_rank.ensures c.numbers_keep_rising.ensures c.the_first_is_given.ensures.given c.a_trivial_walk_needs_nothing.ensures
