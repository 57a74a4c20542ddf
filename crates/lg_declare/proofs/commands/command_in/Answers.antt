use Rattle.lg_declare.proofs.DeclaringLemmas.{or_default, or_read, wants}
use Rattle.lg_declare.specs.Commands.{command_in}
use Rattle.std.proofs.Common.{sym}
use Rattle.lg_declare.proofs.commands.command_in.Goals as goal

pub returns-in_err-names-in-Some : goal.returns-in_err-names-in-Some
unfolding command_in
returns-in_err-names-in-Some c = wants _ _ c.from_residual.ensures.1

pub returns-in_ok-names-in-Some : goal.returns-in_ok-names-in-Some
unfolding command_in
returns-in_ok-names-in-Some c = or_read _ _ _ _ _ _ c.get.ensures c.in-Some.is (rw (sym c.in_ok-names-in-Some.ensures, sym c.deref.ensures.value) c.command_of.ensures)

pub returns-in-None : goal.returns-in-None
unfolding command_in
returns-in-None c = or_default _ _ _ _ c.get.ensures c.in-None.is
