use Rattle.lg_declare.proofs.DeclaringLemmas.{gives, goes_on, stopped, wants}
use Rattle.lg_declare.specs.Parameters.{default_of}
use Rattle.std.proofs.Common.{refl, sym}
use Rattle.lg_declare.proofs.parameters.default_of.Goals as goal

pub returns-in_err-word : goal.returns-in_err-word
unfolding default_of
returns-in_err-word c = stopped _ _ _ _ c.in_err-word.ensures c.from_residual.ensures.1

pub returns-in_err-text : goal.returns-in_err-text
unfolding default_of
returns-in_err-text c = wants _ _ c.from_residual-in_err-text.ensures.1

pub returns-in_err-ensure_reads : goal.returns-in_err-ensure_reads
unfolding default_of
returns-in_err-ensure_reads c = goes_on _ _ _ _ c.in_ok-word.ensures (rw (sym c.in_ok-text.ensures) (stopped _ _ _ _ c.in_err-ensure_reads.ensures c.from_residual-in_err-ensure_reads.ensures.1))

pub returns : goal.returns
unfolding default_of
returns c = goes_on _ _ _ _ c.in_ok-word.ensures (rw (sym c.in_ok-text.ensures) (goes_on _ _ _ _ c.in_ok-ensure_reads.ensures (gives _ _ refl)))
