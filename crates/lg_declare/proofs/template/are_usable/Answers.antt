use Rattle.std.proofs.Common.{◌∙◌}
use Rattle.lg_declare.proofs.PieceLemmas.{usable-pieces}
use Rattle.lg_declare.proofs.template.are_usable.Goals as goal

pub returns : goal.returns
returns c = c.each_is_usable.ensures ∙ usable-pieces c.args.names.now c.args.pieces.now
