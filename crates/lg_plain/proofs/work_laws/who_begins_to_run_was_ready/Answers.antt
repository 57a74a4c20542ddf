use Rattle.lg_plain.proofs.CandidateLawLemmas.{begins-done, begins-ready}
use Rattle.lg_plain.proofs.work_laws.who_begins_to_run_was_ready.Goals as goal

pub returns-clause-ready : goal.returns-clause-ready
returns-clause-ready c = begins-ready c.who_walks_by_rank.ensures c.numbers_keep_rising.ensures c.the_first_is_given.ensures.given

pub returns-clause-done : goal.returns-clause-done
returns-clause-done c = begins-done c.who_walks_by_rank.ensures c.numbers_keep_rising.ensures c.the_first_is_given.ensures.given
