use Rattle.lg_declare.proofs.DeclaringLemmas.{goes_on, passed, stopped}
use Rattle.lg_declare.specs.Requirements.{requirement_of, requirements_of}
use Rattle.std.proofs.Common.{rules}
use Rattle.toml.specs.View.{view}
use Rattle.lg_declare.proofs.requirements.requirements_of.Goals as goal

pub returns-in_err-items : goal.returns-in_err-items
unfolding requirements_of
returns-in_err-items c = stopped _ _ _ _ c.in_err-items.ensures c.from_residual.ensures.1

pub returns-in_err-all : goal.returns-in_err-all
unfolding requirements_of
returns-in_err-all c = goes_on _ _ _ _ c.in_ok-items.ensures (passed _ _ _ (c.in_err-all.ensures (requirement_of (view c.args.families.now) c.args.names.now) (λ v r p. search rules)) c.from_residual-in_err-all.ensures.1)

pub returns : goal.returns
unfolding requirements_of
returns c = goes_on _ _ _ _ c.in_ok-items.ensures (rw c.from_vec.ensures (c.in_ok-all.ensures (requirement_of (view c.args.families.now) c.args.names.now) (λ v r p. search rules)))
