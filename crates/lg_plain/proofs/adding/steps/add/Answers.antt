use Rattle.std.proofs.Common.{◌≡◌, false, cond, OnOk, sym, ap, subst, ◌∙◌}
use Rattle.lg_calls.specs.AddTask.Adding.{carried}
use Rattle.lg_calls.specs.AddTask.Ending.{ends}
use Rattle.lg_calls.specs.Workers.{touched}
use Rattle.lg_plain.proofs.adding.steps.add.Goals as goal

pub returns : goal.returns
returns c =
    let ask = c.args.ask.now in
    let here = touched ask.worker c.args.state.now in
    let touch : c.touch.new.state ≡ here = c.in_ok-touch.ensures.touched in
    let over : ends ask here ≡ false = ap (ends ask) (sym touch) ∙ sym c.ends.ensures ∙ c.if-ends.false in
    subst (λ done. OnOk c.carry_out.result (c.carry_out.new.state ≡ done))
    (ap (carried ask) touch ∙ sym (ap (λ b. cond b here (carried ask here)) over))
    c.carry_out.ensures
