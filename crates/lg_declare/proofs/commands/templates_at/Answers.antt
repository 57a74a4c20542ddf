use Rattle.lg_declare.proofs.DeclaringLemmas.{goes_on, stopped}
use Rattle.lg_declare.specs.Commands.{templates_at}
use Rattle.lg_declare.proofs.commands.templates_at.Goals as goal

pub returns-in_err-items : goal.returns-in_err-items
unfolding templates_at
returns-in_err-items c = stopped _ _ _ _ c.in_err-items.ensures c.from_residual.ensures.1

pub returns : goal.returns
unfolding templates_at
returns c = goes_on _ _ _ _ c.in_ok-items.ensures c.each_template.ensures
