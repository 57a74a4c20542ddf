use Rattle.lg_snapshot.proofs.StateBack.{one_state}
use Rattle.lg_snapshot.proofs.laws.one_text_one_state.Goals as goal

pub returns : goal.returns
returns c settings s t bytes held also is too = one_state settings s t bytes held also is too
