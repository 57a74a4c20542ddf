use Rattle.lg_declare.proofs.DeclaringLemmas.{passed}
use Rattle.lg_declare.specs.Commands.{template_at}
use Rattle.std.proofs.Common.{rules}
use Rattle.lg_declare.proofs.commands.each_template.Goals as goal

pub returns-in_err-all : goal.returns-in_err-all
returns-in_err-all c = passed _ _ _ (c.in_err-all.ensures (template_at c.args.key.now c.args.names.now) (λ v r p. search rules)) c.from_residual.ensures.1

pub returns : goal.returns
returns c = rw c.from_vec.ensures (c.in_ok-all.ensures (template_at c.args.key.now c.args.names.now) (λ v r p. search rules))
