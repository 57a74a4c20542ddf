use Rattle.lg_http.proofs.Readings.{one_status}
use Rattle.lg_http.proofs.laws.one_status.Goals as goal

pub returns : goal.returns
returns c = one_status
