use Rattle.lg_declare.proofs.DeclaringLemmas.{passed}
use Rattle.lg_declare.proofs.LoopLemmas.{key_passed, key_refused, keys_passed}
use Rattle.lg_declare.proofs.values.only_keys.Goals as goal

pub returns-in_err-known_key : goal.returns-in_err-known_key
returns-in_err-known_key c = passed _ _ _ (key_refused _ _ _ _ _ c.next.new.self _ _ c.in-Some.ensures.steps c.as_str.ensures.value c.in_err-known_key.ensures c.loop-key.invariant) c.from_residual.ensures.1

pub loop-key-preserved : goal.loop-key-preserved
loop-key-preserved c = key_passed _ _ _ _ _ c.next.new.self _ c.in-Some.ensures.steps c.as_str.ensures.value c.in_ok-known_key.ensures c.loop-key.invariant

pub returns : goal.returns
returns c = keys_passed _ _ _ c.in-None.ensures.steps.0 c.loop-key.invariant
