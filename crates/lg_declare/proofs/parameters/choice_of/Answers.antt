use Rattle.lg_declare.proofs.DeclaringLemmas.{goes_on, stopped, wants}
use Rattle.lg_declare.specs.Parameters.{choice_of}
use Rattle.std.proofs.Common.{sym}
use Rattle.lg_declare.proofs.parameters.choice_of.Goals as goal

pub returns-in_err-word : goal.returns-in_err-word
unfolding choice_of
returns-in_err-word c = stopped _ _ _ _ c.in_err-word.ensures c.from_residual.ensures.1

pub returns-in_err-text : goal.returns-in_err-text
unfolding choice_of
returns-in_err-text c = goes_on _ _ _ _ c.in_ok-word.ensures (wants _ _ c.from_residual-in_err-text.ensures.1)

pub returns : goal.returns
unfolding choice_of
returns c = goes_on _ _ _ _ c.in_ok-word.ensures (rw (sym c.in_ok-text.ensures) c.new_choice.ensures)
