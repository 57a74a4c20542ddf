use Rattle.lg_plain.proofs.ValidityLemmas.{valid-set_status}
use Rattle.lg_plain.proofs.laws.setting_keeps_validity.Goals as goal

pub returns : goal.returns
returns c = valid-set_status c.moments_stay_in_order.ensures
