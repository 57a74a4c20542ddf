use Rattle.lg_plain.proofs.LawLemmas.{rest-set_status, rest-enable, ids_of-set_status, numbers_of-set_status}
use Rattle.lg_plain.proofs.laws.all_else_stays.Goals as goal

pub returns-clause-set : goal.returns-clause-set
returns-clause-set c = rest-set_status

pub returns-clause-enabled : goal.returns-clause-enabled
returns-clause-enabled c = rest-enable

pub returns-clause-ids : goal.returns-clause-ids
returns-clause-ids c = ids_of-set_status

pub returns-clause-numbers : goal.returns-clause-numbers
returns-clause-numbers c = numbers_of-set_status
