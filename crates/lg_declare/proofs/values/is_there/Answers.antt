use Rattle.lg_declare.proofs.DeclaringLemmas.{found_or_not}
use Rattle.std.proofs.Common.{ap, is_some, ◌∙◌}
use Rattle.lg_declare.proofs.values.is_there.Goals as goal

pub returns : goal.returns
returns c = c.is_some.ensures ∙ found_or_not _ ∙ ap is_some c.get.ensures
