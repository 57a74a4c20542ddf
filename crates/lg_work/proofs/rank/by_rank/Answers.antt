use Rattle.std.proofs.Common.{rules, is_lt}
use Rattle.std.proofs.lemmas.Fn.{always_returns_same}
use Rattle.std.proofs.lemmas.List.Sorted.{ranks_by}
use Rattle.std.specs.Borrow.{Bor}
use Rattle.lg_calls.specs.Task.{Task}
use Rattle.lg_calls.specs.Work.Rank.{rank_cmp}
use Rattle.lg_views.specs.Lent.{lent}
use Rattle.lg_work.proofs.RankLemmas.{rank_total, ranked_is}
use Rattle.lg_work.proofs.rank.by_rank.Goals as goal

pub returns : goal.returns
returns c =
    ranked_is c.rank_is_an_order.ensures.either c.args.tasks.items _ c.sort_by.ensures.permutation
    (c.in_ok-sort_by.ensures.sorted (λ one other. is_lt (rank_cmp one.now other.now)) (ranks_by rank_total (λ (task : Bor Task). task.now)) (always_returns_same _ _ _ (λ a r f k. search rules)))
    c.requires (c.who_walks_by_rank.ensures (lent c.args.tasks.items) c.requires)
