use Rattle.lg_http.proofs.Readings.{bad_not_undecided}
use Rattle.lg_http.proofs.laws.never_both.Goals as goal

pub returns : goal.returns
returns c = bad_not_undecided
