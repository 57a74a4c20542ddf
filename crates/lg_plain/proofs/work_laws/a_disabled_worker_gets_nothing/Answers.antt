use Rattle.lg_plain.proofs.CandidateLawLemmas.{disabled-tasks, disabled-told}
use Rattle.lg_plain.proofs.work_laws.a_disabled_worker_gets_nothing.Goals as goal

pub returns-clause-told : goal.returns-clause-told
returns-clause-told c = disabled-told

pub returns-clause-tasks : goal.returns-clause-tasks
returns-clause-tasks c = disabled-tasks
