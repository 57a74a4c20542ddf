use Rattle.std.proofs.Common.{rules, is_lt}
use Rattle.std.proofs.lemmas.Cmp.{nat_list_cmp_total}
use Rattle.std.proofs.lemmas.Fn.{always_returns_same}
use Rattle.std.proofs.lemmas.List.Sorted.{ranks_by}
use Rattle.std.specs.Borrow.{Bor}
use Rattle.std.specs.Cmp.Lexicographic.{slice_cmp}
use Rattle.std.specs.Ordering.{nat_cmp}
use Rattle.lg_calls.specs.Task.{Task}
use Rattle.lg_views.proofs.RecordLemmas.{lent_in_order, sorted_valid}
use Rattle.lg_views.proofs.records.in_order_of_ids.Goals as goal

pub returns-clause-same : goal.returns-clause-same
returns-clause-same c =
    lent_in_order c.args.tasks.items _ c.sort_by.ensures.permutation
    (c.in_ok-sort_by.ensures.sorted (λ one other. is_lt (slice_cmp nat_cmp one.now.id other.now.id)) (ranks_by nat_list_cmp_total (λ (task : Bor Task). task.now.id)) (always_returns_same _ _ _ (λ a r f k. search rules)))
    c.requires.ids_differ

pub returns-clause-valid : goal.returns-clause-valid
returns-clause-valid c = sorted_valid c.args.tasks.items _ c.requires c.sort_by.ensures.permutation
