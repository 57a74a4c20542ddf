use Rattle.lg_plain.proofs.ValidityLemmas.{runs_on, valid-runs_on}
use Rattle.lg_plain.proofs.laws.who_runs_runs_on.Goals as goal

pub returns-clause-runs_on : goal.returns-clause-runs_on
returns-clause-runs_on c = runs_on

pub returns-clause-valid : goal.returns-clause-valid
returns-clause-valid c = valid-runs_on
