use Rattle.lg_http.proofs.Readings.{bad_for_good}
use Rattle.lg_http.proofs.laws.bad_stays.Goals as goal

pub returns : goal.returns
returns c = bad_for_good
