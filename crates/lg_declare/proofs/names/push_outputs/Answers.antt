use Rattle.std.proofs.Common.{◌∙◌}
use Rattle.lg_declare.proofs.NameLemmas.{outputs-more}
use Rattle.lg_declare.proofs.names.push_outputs.Goals as goal

pub loop-place-preserved : goal.loop-place-preserved
loop-place-preserved c =
    outputs-more c.args.names.now.items c.loop-place.names.items c.push.new.self.items c.loop-place.place-counter c.from.result
    c.loop-place.invariant (c.from.ensures ∙ c.from_string.ensures.same ∙ c.in_ok-name.ensures.ok) c.in_ok-push.ensures.items
