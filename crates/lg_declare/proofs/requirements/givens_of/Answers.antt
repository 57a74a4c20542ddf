use Rattle.lg_declare.proofs.DeclaringLemmas.{goes_on, passed, stopped}
use Rattle.lg_declare.specs.Requirements.{given_of, givens_of}
use Rattle.std.proofs.Common.{rules}
use Rattle.toml.specs.View.{view}
use Rattle.lg_declare.proofs.requirements.givens_of.Goals as goal

pub returns-in_err-members : goal.returns-in_err-members
unfolding givens_of
returns-in_err-members c = stopped _ _ _ _ c.in_err-members.ensures c.from_residual.ensures.1

pub returns-in_err-givens : goal.returns-in_err-givens
unfolding givens_of
returns-in_err-givens c = goes_on _ _ _ _ c.in_ok-members.ensures (passed _ _ _ (c.in_err-givens.ensures (given_of (view c.args.required.now) c.args.names.now) (λ k v r p. search rules)) c.from_residual-in_err-givens.ensures.1)

pub returns : goal.returns
unfolding givens_of
returns c = goes_on _ _ _ _ c.in_ok-members.ensures (rw c.from_vec.ensures (c.in_ok-givens.ensures (given_of (view c.args.required.now) c.args.names.now) (λ k v r p. search rules)))
