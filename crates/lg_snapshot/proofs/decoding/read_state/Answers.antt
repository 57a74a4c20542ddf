use Rattle.lg_snapshot.proofs.DecodingLemmas.{unparsed, no_members, members_said}
use Rattle.lg_snapshot.proofs.decoding.read_state.Goals as goal

pub returns-in_err-value-clause-says : goal.returns-in_err-value-clause-says
returns-in_err-value-clause-says c = unparsed _ _ _ _ c.in_err-value.ensures c.from_residual.ensures.1

pub returns-in_err-entries-clause-says : goal.returns-in_err-entries-clause-says
returns-in_err-entries-clause-says c = no_members _ _ _ _ _ c.in_ok-value.ensures c.in_err-entries.ensures c.from_residual-in_err-entries.ensures.1

pub returns-clause-says : goal.returns-clause-says
returns-clause-says c = members_said _ _ _ _ _ _ c.in_ok-value.ensures c.in_ok-entries.ensures c.read_fields.ensures.read
