use Rattle.std.proofs.Common.{sym, ap, ◌∙◌, is_some}
use Rattle.lg_calls.specs.Status.{rested, retried}
use Rattle.lg_calls.specs.Task.{Task}
use Rattle.lg_plain.proofs.RuleLemmas.{set_alone-held, set_alone-steps}
use Rattle.lg_plain.proofs.rules.set_alone.Goals as goal

pub returns-then-is_held : goal.returns-then-is_held
returns-then-is_held c =
    sym (set_alone-held c.args.delay c.args.now c.args.status c.args.task.now (sym c.is_held.ensures ∙ c.if-is_held.true))

pub returns : goal.returns
returns c =
    let was = c.is_some-was_in_batch.result in
    let steps = set_alone-steps c.args.delay c.args.now c.args.status c.judge-status.result c.args.task.now c.forgive_done.new.task c.judge-status.new.task was
    (sym c.is_held.ensures ∙ c.if-is_held.false) (c.is_some-was_in_batch.ensures ∙ ap (λ (t : Task). is_some t.batch) c.task.view_is) c.forgive_done.ensures c.judge-status.ensures in
    c.retry.ensures ∙ ap (λ t. retried c.args.delay c.args.now was t) (c.rest.ensures ∙ ap rested c.turn.ensures) ∙ sym steps
