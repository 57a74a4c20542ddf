use Rattle.lg_plain.proofs.CandidateLawLemmas.{again-lost, again-tasks, again-told}
use Rattle.lg_plain.proofs.work_laws.who_is_given_again_runs_on.Goals as goal

pub returns-clause-lost : goal.returns-clause-lost
returns-clause-lost c = again-lost c.who_walks_by_rank.ensures

pub returns-clause-told : goal.returns-clause-told
returns-clause-told c = again-told

pub returns-clause-tasks : goal.returns-clause-tasks
returns-clause-tasks c = again-tasks
