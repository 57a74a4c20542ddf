use Rattle.std.proofs.Common.{arith, ⊎_elim}
use Rattle.std.proofs.lemmas.Bool.{cases_lt}
use Rattle.std.proofs.lemmas.Grind.{common_steps}
use Rattle.lg_params.proofs.ListLemmas.{utf8_here}
use Rattle.lg_params.proofs.lists.push_others.Goals as goal

pub loop-text-preserved : goal.loop-text-preserved
loop-text-preserved c = (
  grind (arith, common_steps),
  λ k d below.
      ⊎_elim (λ before. c.loop-text.invariant.1 k d before)
      (λ here. utf8_here _ _ k _ d (omega arith) c.text-item.is (omega arith) c.as_str.ensures.utf8)
      (cases_lt k c.loop-text.text-index),
)
