use Rattle.std.proofs.lemmas.Result.{IfOk-weaker}
use Rattle.lg_views.proofs.tests.running_state.Goals as goal

pub returns : goal.returns
returns c = IfOk-weaker _ _ _ (λ s valid. c.valid_states_can_be_listed.ensures s valid) c.state_of.ensures
