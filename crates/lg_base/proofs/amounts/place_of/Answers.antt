use Rattle.std.proofs.Common.{rules}
use Rattle.std.specs.Ordering.{nat_cmp}
use Rattle.std.specs.Cmp.Lexicographic.{slice_cmp}
use Rattle.std.proofs.lemmas.Fn.{always_returns_same}
use Rattle.lg_base.proofs.amounts.place_of.Goals as goal

-- the closure compares a pair's name
pub returns-clause-position : goal.returns-clause-position
returns-clause-position c =
    c.binary_search_by.ensures.position (λ pair. slice_cmp nat_cmp pair.0 c.args.name.now) (always_returns_same _ _ _ (λ a r f' called. search rules))
