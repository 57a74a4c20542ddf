use Rattle.std.proofs.Common.{sym, ap, ◌∙◌}
use Rattle.lg_calls.specs.Workers.{is_disabled}
use Rattle.lg_plain.proofs.AskingLemmas.{nothing-given, marked-given}
use Rattle.lg_plain.proofs.requests.work.give.Goals as goal

pub returns-then-is_disabled : goal.returns-then-is_disabled
returns-then-is_disabled c =
    let worker = c.args.ask.now.worker in
    nothing-given c.args.ask.now c.args.state.now c.hear_asking.new.state _ c.in_ok-hear_asking.ensures.heard
    (ap (is_disabled worker) (sym c.as_slice.ensures) ∙ sym c.if-is_disabled.ensures) c.in_ok-reply.ensures

pub returns : goal.returns
returns c =
    let worker = c.args.ask.now.worker in
    marked-given c.args.ask.now c.args.state.now c.hear_asking.new.state c.mark_assistant.new.state _ _ c.in_ok-hear_asking.ensures.heard
    (ap (is_disabled worker) (sym c.as_slice.ensures) ∙ sym c.if-is_disabled.ensures) c.in_ok-mark_assistant.ensures.marked c.give_to.ensures
