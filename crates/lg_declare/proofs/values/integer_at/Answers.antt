use Rattle.lg_declare.proofs.DeclaringLemmas.{right, wrong}
use Rattle.std.proofs.Common.{SFits, rules, sym, w64, ◌∙◌}
use Rattle.std.proofs.lemmas.Int.{to_z-of_z}
use Rattle.lg_declare.proofs.values.integer_at.Goals as goal

pub returns-in-Some : goal.returns-in-Some
returns-in-Some c =
    let fits : SFits w64 c.in-Some.number = search rules in
    rw (to_z-of_z w64 c.in-Some.number fits) (right _ _ _ (sym c.as_integer.ensures ∙ c.in-Some.is))

pub returns-in-None : goal.returns-in-None
returns-in-None c = wrong _ _ _ c.bad_value.ensures (sym c.as_integer.ensures ∙ c.in-None.is)
