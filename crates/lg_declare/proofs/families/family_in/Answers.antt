use Rattle.lg_declare.proofs.DeclaringLemmas.{gives, goes_on, stopped, wants}
use Rattle.lg_declare.specs.Families.{family_in}
use Rattle.std.proofs.Common.{SFits, refl, rules, w64}
use Rattle.std.proofs.lemmas.Int.{to_z-of_z}
use Rattle.lg_declare.proofs.families.family_in.Goals as goal

pub returns-in_err-work : goal.returns-in_err-work
unfolding family_in
returns-in_err-work c = stopped _ _ _ _ c.in_err-work.ensures c.from_residual.ensures.1

pub returns-in_err-terms : goal.returns-in_err-terms
unfolding family_in
returns-in_err-terms c = goes_on _ _ _ _ c.in_ok-work.ensures (stopped _ _ _ _ c.in_err-terms.ensures c.from_residual-in_err-terms.ensures.1)

pub returns-in_err-params : goal.returns-in_err-params
unfolding family_in
returns-in_err-params c = goes_on _ _ _ _ c.in_ok-work.ensures (goes_on _ _ _ _ c.in_ok-terms.ensures (stopped _ _ _ _ c.in_err-params.ensures c.from_residual-in_err-params.ensures.1))

pub returns-in_err-name : goal.returns-in_err-name
unfolding family_in
returns-in_err-name c = goes_on _ _ _ _ c.in_ok-work.ensures (goes_on _ _ _ _ c.in_ok-terms.ensures (goes_on _ _ _ _ c.in_ok-params.ensures (wants _ _ c.from_residual-in_err-name.ensures.1)))

pub returns : goal.returns
unfolding family_in
returns c =
    let fits : SFits w64 c.in_ok-terms.terms.priority = search rules in
    goes_on _ _ _ _ c.in_ok-work.ensures (goes_on _ _ _ _ c.in_ok-terms.ensures (goes_on _ _ _ _ c.in_ok-params.ensures (gives _ _ (rw (c.in_ok-name.ensures, to_z-of_z w64 c.in_ok-terms.terms.priority fits) refl))))
