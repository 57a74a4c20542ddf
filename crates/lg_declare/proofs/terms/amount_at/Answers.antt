use Rattle.lg_declare.proofs.DeclaringLemmas.{passed}
use Rattle.lg_declare.proofs.terms.amount_at.Goals as goal

pub returns-in_err-amount : goal.returns-in_err-amount
returns-in_err-amount c = passed _ _ _ c.in_err-amount.ensures.due c.from_residual.ensures.1

pub returns : goal.returns
returns c = c.in_ok-amount.ensures.due
