use Rattle.lg_declare.proofs.DeclaringLemmas.{right, wrong}
use Rattle.lg_declare.specs.Terms.{count_at}
use Rattle.std.proofs.Common.{sym, ◌∙◌}
use Rattle.lg_declare.proofs.terms.count_at.Goals as goal

pub returns-in-Some-clause-due : goal.returns-in-Some-clause-due
unfolding count_at
returns-in-Some-clause-due c = right _ _ _ (sym c.count_of.ensures.same ∙ c.in-Some.is)

pub returns-in-None-clause-due : goal.returns-in-None-clause-due
unfolding count_at
returns-in-None-clause-due c = wrong _ _ _ c.bad_value.ensures (sym c.count_of.ensures.same ∙ c.in-None.is)
