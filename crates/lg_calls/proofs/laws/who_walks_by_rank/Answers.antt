use Rattle.lg_calls.proofs.RankLemmas.{stand_by_rank}
use Rattle.lg_calls.proofs.laws.who_walks_by_rank.Goals as goal

pub returns : goal.returns
returns c = stand_by_rank
