use Rattle.lg_declare.proofs.DeclaringLemmas.{gives, refuses}
use Rattle.lg_declare.specs.Parameters.{meant}
use Rattle.std.proofs.Common.{ap, sym, ◌∙◌}
use Rattle.lg_declare.proofs.parameters.kind_meant.Goals as goal

pub returns-in-Some : goal.returns-in-Some
returns-in-Some c = gives _ _ (ap (meant c.args.word.now) (sym c.kind_named.ensures ∙ c.in-Some.is))

pub returns-in-None : goal.returns-in-None
returns-in-None c = refuses _ _ _ c.unknown_kind.ensures (ap (meant c.args.word.now) (sym c.kind_named.ensures ∙ c.in-None.is))
