use Rattle.lg_http.proofs.Readings.{bad_not_served}
use Rattle.lg_http.proofs.laws.bad_wants_no_memory.Goals as goal

pub returns : goal.returns
returns c = bad_not_served
