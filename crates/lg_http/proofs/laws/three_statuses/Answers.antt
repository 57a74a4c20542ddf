use Rattle.lg_http.proofs.Readings.{bad_status}
use Rattle.lg_http.proofs.laws.three_statuses.Goals as goal

pub returns : goal.returns
returns c = bad_status
