use Rattle.lg_plain.proofs.CandidateLawLemmas.{begins-unpaused, paused-tasks, paused-told}
use Rattle.lg_plain.proofs.work_laws.a_paused_scheduler_gives_only_again.Goals as goal

pub returns-clause-nothing_begins : goal.returns-clause-nothing_begins
returns-clause-nothing_begins c = begins-unpaused c.who_walks_by_rank.ensures c.numbers_keep_rising.ensures c.the_first_is_given.ensures.given

pub returns-clause-told : goal.returns-clause-told
returns-clause-told c = paused-told

pub returns-clause-tasks : goal.returns-clause-tasks
returns-clause-tasks c = paused-tasks
