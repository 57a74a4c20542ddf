use Rattle.lg_ranges.proofs.RequiredLemmas.{one_list, within_limit}
use Rattle.lg_ranges.proofs.laws.one_list.Goals as goal

pub returns-clause-one : goal.returns-clause-one
returns-clause-one c = one_list

pub returns-clause-limit : goal.returns-clause-limit
returns-clause-limit c = within_limit
