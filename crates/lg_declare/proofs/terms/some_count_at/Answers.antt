use Rattle.lg_declare.proofs.DeclaringLemmas.{gives, goes_on, stopped}
use Rattle.lg_declare.specs.Terms.{some_count_at}
use Rattle.std.proofs.Common.{refl}
use Rattle.lg_declare.proofs.terms.some_count_at.Goals as goal

pub returns-in_err-count : goal.returns-in_err-count
unfolding some_count_at
returns-in_err-count c = stopped _ _ _ _ c.in_err-count.ensures.due c.from_residual.ensures.1

pub returns : goal.returns
unfolding some_count_at
returns c = goes_on _ _ _ _ c.in_ok-count.ensures.due (gives _ _ refl)
