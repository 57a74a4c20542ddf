use Rattle.lg_calls.proofs.RankLemmas.{outranks-one_way, outranks-on, outranks-either}
use Rattle.lg_calls.proofs.laws.rank_is_an_order.Goals as goal

pub returns-clause-one_way : goal.returns-clause-one_way
returns-clause-one_way c = outranks-one_way

pub returns-clause-on : goal.returns-clause-on
returns-clause-on c = outranks-on

pub returns-clause-either : goal.returns-clause-either
returns-clause-either c = outranks-either
