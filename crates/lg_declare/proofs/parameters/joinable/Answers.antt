use Rattle.lg_declare.proofs.DeclaringLemmas.{gives, refuses}
use Rattle.lg_declare.specs.Parameters.{joinable}
use Rattle.std.proofs.Common.{refl, sym, ◌∙◌}
use Rattle.lg_declare.proofs.parameters.joinable.Goals as goal

pub returns-then-is_joinable : goal.returns-then-is_joinable
unfolding joinable
returns-then-is_joinable c = rw (sym c.is_joinable.ensures ∙ c.if-is_joinable.true) (gives _ _ refl)

pub returns-else-is_joinable : goal.returns-else-is_joinable
unfolding joinable
returns-else-is_joinable c = rw (sym c.is_joinable.ensures ∙ c.if-is_joinable.false) (refuses _ _ _ c.unknown_kind.ensures refl)
