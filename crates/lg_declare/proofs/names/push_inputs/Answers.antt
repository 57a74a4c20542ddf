use Rattle.std.proofs.Common.{vec_items, ap, ◌∙◌}
use Rattle.lg_declare.proofs.NameLemmas.{inputs-named, inputs-unnamed}
use Rattle.lg_declare.proofs.names.push_inputs.Goals as goal
use Rattle.lg_declare.proofs.names.push_inputs.Goals.{then-has_outputs+in_ok-name+in_ok-push, else-has_outputs}

pub loop-place-preserved : goal.loop-place-preserved
loop-place-preserved c =
    let start = c.args.names.now.items in
    let was = c.loop-place.names.items in
    let inputs = c.args.inputs.now in
    let i = c.loop-place.place-counter in
    elim c.if-has_outputs.branch [
      | then-has_outputs+in_ok-name+in_ok-push w ↦
          inputs-named start was _ inputs i w.from.result c.loop-place-test.true w.if-has_outputs.true c.loop-place.invariant
          (w.from.ensures ∙ w.from_string.ensures.same ∙ w.in_ok-name.ensures.ok) (ap vec_items w.names-is ∙ w.in_ok-push.ensures.items)
      | else-has_outputs w ↦ inputs-unnamed start was _ inputs i c.loop-place-test.true w.if-has_outputs.false c.loop-place.invariant (ap vec_items w.names-is)
    ]
