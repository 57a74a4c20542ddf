use Rattle.lg_plain.proofs.AddingLemmas.{valid-added}
use Rattle.lg_plain.proofs.laws.adding_keeps_validity.Goals as goal

pub returns : goal.returns
returns c = valid-added c.moments_stay_in_order.ensures c.ids_stay_distinct.ensures c.numbers_keep_rising.ensures
