use Rattle.lg_declare.proofs.LoopLemmas.{seen_twice}
use Rattle.lg_declare.specs.Commands.{names_in_command}
use Rattle.lg_declare.specs.Keys.{gives_input}
use Rattle.toml.specs.View.{view}
use Rattle.std.proofs.Common.{sym}
use Rattle.lg_declare.proofs.commands.names_in_command.Goals as goal

pub returns : goal.returns
unfolding names_in_command
returns c = rw (sym c.in_ok-parameters.ensures, sym c.output_count-outputs.ensures, sym c.list_at.ensures, sym (seen_twice (gives_input (view c.args.families.now)) c.list_at.result.now), sym c.in_ok-inputs.ensures, sym c.deref.ensures.value) c.command_names.ensures
