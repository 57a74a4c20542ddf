use Rattle.lg_plain.proofs.StepLemmas.{valid-step}
use Rattle.lg_plain.proofs.laws.steps_keep_validity.Goals as goal

pub returns : goal.returns
returns c = valid-step c.setting_keeps_validity.ensures c.adding_keeps_validity.ensures c.ids_stay_distinct.ensures c.numbers_keep_rising.ensures
    c.who_walks_by_rank.ensures c.the_first_is_given.ensures.given
