use Rattle.lg_declare.proofs.DeclaringLemmas.{goes_on, stopped}
use Rattle.lg_declare.specs.Parameters.{kind_of}
use Rattle.lg_declare.proofs.parameters.kind_of.Goals as goal

pub returns-in_err-word : goal.returns-in_err-word
unfolding kind_of
returns-in_err-word c = stopped _ _ _ _ c.in_err-word.ensures c.from_residual.ensures.1

pub returns : goal.returns
unfolding kind_of
returns c = goes_on _ _ _ _ c.in_ok-word.ensures c.kind_meant.ensures
