use Rattle.lg_views.proofs.ListedLemmas.{CanBeListed-valid}
use Rattle.lg_views.proofs.laws.valid_states_can_be_listed.Goals as goal

pub returns : goal.returns
returns c = λ s valid. CanBeListed-valid s valid
