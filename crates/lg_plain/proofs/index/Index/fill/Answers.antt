use Rattle.std.proofs.Common.{◌≡◌, ap, rules}
use Rattle.std.specs.Cmp.Lexicographic.{slice_cmp, nat_list_cmp_total}
use Rattle.std.specs.Ordering.{nat_cmp, is_lt}
use Rattle.std.proofs.lemmas.Fn.{always_returns_same}
use Rattle.std.proofs.lemmas.List.Sorted.{ranks_by}
use Rattle.lg_plain.specs.Index.{id_at}
use Rattle.lg_plain.proofs.IndexLemmas.{has_each_moved}
use Rattle.lg_plain.proofs.index.Index.fill.Goals as goal

pub returns : goal.returns
returns c =
    let tasks = c.args.tasks.now in
    record {
      has = has_each_moved _ _ _ c.sort_unstable_by.ensures.permutation c.put_places.ensures;
      in_order = c.sort_unstable_by.ensures.sorted (λ one other. is_lt (slice_cmp nat_cmp (id_at tasks one) (id_at tasks other))) (ranks_by nat_list_cmp_total (id_at tasks)) (always_returns_same _ _ _ (λ a r f' called.
          let compared : r ≡ slice_cmp nat_cmp (id_at tasks a.0.now) (id_at tasks a.1.0.now) = search rules in
          (ap is_lt compared, search rules)));
    }
