use Rattle.lg_declare.proofs.DeclaringLemmas.{gives, goes_on, stopped}
use Rattle.lg_declare.specs.Terms.{terms_in}
use Rattle.std.proofs.Common.{SFits, refl, rules, w64}
use Rattle.std.proofs.lemmas.Int.{to_z-of_z}
use Rattle.lg_declare.proofs.terms.terms_in.Goals as goal

pub returns-in_err-resources : goal.returns-in_err-resources
unfolding terms_in
returns-in_err-resources c = stopped _ _ _ _ c.in_err-resources.ensures c.from_residual.ensures.1

pub returns-in_err-priority : goal.returns-in_err-priority
unfolding terms_in
returns-in_err-priority c = goes_on _ _ _ _ c.in_ok-resources.ensures (stopped _ _ _ _ c.in_err-priority.ensures c.from_residual-in_err-priority.ensures.1)

pub returns-in_err-retries : goal.returns-in_err-retries
unfolding terms_in
returns-in_err-retries c = goes_on _ _ _ _ c.in_ok-resources.ensures (goes_on _ _ _ _ c.in_ok-priority.ensures (stopped _ _ _ _ c.in_err-retries.ensures c.from_residual-in_err-retries.ensures.1))

pub returns-in_err-max_batch_size : goal.returns-in_err-max_batch_size
unfolding terms_in
returns-in_err-max_batch_size c = goes_on _ _ _ _ c.in_ok-resources.ensures (goes_on _ _ _ _ c.in_ok-priority.ensures (goes_on _ _ _ _ c.in_ok-retries.ensures (stopped _ _ _ _ c.in_err-max_batch_size.ensures c.from_residual-in_err-max_batch_size.ensures.1)))

pub returns : goal.returns
unfolding terms_in
returns c =
    let fits : SFits w64 c.in_ok-priority.priority = search rules in
    goes_on _ _ _ _ c.in_ok-resources.ensures (goes_on _ _ _ _ c.in_ok-priority.ensures (goes_on _ _ _ _ c.in_ok-retries.ensures (goes_on _ _ _ _ c.in_ok-max_batch_size.ensures (gives _ _ (rw (to_z-of_z w64 c.in_ok-priority.priority fits) refl)))))
