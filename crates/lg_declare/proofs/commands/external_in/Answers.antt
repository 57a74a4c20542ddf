use Rattle.lg_declare.proofs.DeclaringLemmas.{or_default, or_read}
use Rattle.lg_declare.specs.Commands.{external_in}
use Rattle.std.proofs.Common.{sym}
use Rattle.lg_declare.proofs.commands.external_in.Goals as goal

pub returns-in-Some : goal.returns-in-Some
unfolding external_in
returns-in-Some c = rw (sym c.is_there.ensures) (or_read _ _ _ _ _ _ c.get.ensures c.in-Some.is c.external_of.ensures)

pub returns-in-None : goal.returns-in-None
unfolding external_in
returns-in-None c = or_default _ _ _ _ c.get.ensures c.in-None.is
