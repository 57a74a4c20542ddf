use Rattle.lg_plain.proofs.WithinLemmas.{stays-within}
use Rattle.lg_plain.proofs.work_laws.what_runs_stays_within_its_limit.Goals as goal

pub returns : goal.returns
returns c = stays-within c.who_walks_by_rank.ensures c.numbers_keep_rising.ensures c.the_first_is_given.ensures.given c.a_trivial_walk_needs_nothing.ensures
