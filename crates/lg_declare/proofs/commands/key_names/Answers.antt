use Rattle.lg_declare.proofs.LoopLemmas.{key_named, keys_named}
use Rattle.std.proofs.Common.{◌∙◌}
use Rattle.lg_declare.proofs.commands.key_names.Goals as goal

pub loop-key-preserved : goal.loop-key-preserved
loop-key-preserved c = key_named _ _ _ _ _ c.next.new.self _ _ c.in-Some.ensures.steps (c.in_ok-name.ensures ∙ c.as_str.ensures.value) c.in_ok-push.ensures.items c.loop-key.invariant

pub returns : goal.returns
returns c = keys_named _ _ _ c.in-None.ensures.steps.0 c.loop-key.invariant
