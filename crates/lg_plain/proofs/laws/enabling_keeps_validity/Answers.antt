use Rattle.lg_plain.proofs.ValidityLemmas.{valid-enable}
use Rattle.lg_plain.proofs.laws.enabling_keeps_validity.Goals as goal

pub returns : goal.returns
returns c = valid-enable c.moments_stay_in_order.ensures
