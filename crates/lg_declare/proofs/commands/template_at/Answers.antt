use Rattle.lg_declare.proofs.DeclaringLemmas.{goes_on, stopped, wants}
use Rattle.lg_declare.specs.Commands.{template_at}
use Rattle.std.proofs.Common.{sym}
use Rattle.lg_declare.proofs.commands.template_at.Goals as goal

pub returns-in_err-word : goal.returns-in_err-word
unfolding template_at
returns-in_err-word c = stopped _ _ _ _ c.in_err-word.ensures c.from_residual.ensures.1

pub returns-in_err-text : goal.returns-in_err-text
unfolding template_at
returns-in_err-text c = goes_on _ _ _ _ c.in_ok-word.ensures (wants _ _ c.from_residual-in_err-text.ensures.1)

pub returns : goal.returns
unfolding template_at
returns c = goes_on _ _ _ _ c.in_ok-word.ensures (rw (sym c.in_ok-text.ensures) c.template_of.ensures)
