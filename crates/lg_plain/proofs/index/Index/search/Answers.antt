use Rattle.std.proofs.Common.{ℕ, Ordering, subst, rules}
use Rattle.std.specs.Ordering.{nat_cmp}
use Rattle.std.specs.Cmp.Lexicographic.{slice_cmp}
use Rattle.std.specs.List.Sorted.{IsBinarySearchResult}
use Rattle.std.proofs.lemmas.Fn.{always_returns_same}
use Rattle.lg_plain.specs.Index.{id_at}
use Rattle.lg_plain.proofs.index.Index.search.Goals as goal

-- the closure compares the id of the task of a place
pub returns-clause-position : goal.returns-clause-position
returns-clause-position c =
    let order : ℕ → Ordering = λ place. slice_cmp nat_cmp (id_at c.args.tasks.now place) c.args.id.now in
    subst (λ places. IsBinarySearchResult order places c.binary_search_by.result) c.deref.ensures.value
    (c.binary_search_by.ensures.position order (always_returns_same _ _ _ (λ a r f' called. search rules)))
