use Rattle.lg_plain.proofs.CandidateLawLemmas.{begins-first, begins-told}
use Rattle.lg_plain.proofs.work_laws.who_begins_to_run_is_the_first.Goals as goal

pub returns-clause-first : goal.returns-clause-first
returns-clause-first c = begins-first c.who_walks_by_rank.ensures c.numbers_keep_rising.ensures c.the_first_is_given.ensures.given

pub returns-clause-told : goal.returns-clause-told
returns-clause-told c = begins-told c.who_walks_by_rank.ensures c.numbers_keep_rising.ensures c.the_first_is_given.ensures.given
