use Rattle.std.proofs.Common.{true, false, sym, ◌∙◌}
use Rattle.lg_calls.specs.Work.Reserved.{is_active}
use Rattle.lg_work.proofs.ReserveLemmas.{active_pushed, idle_left}
use Rattle.lg_work.proofs.reserve.push_active.Goals as goal

pub returns-in_ok-push : goal.returns-in_ok-push
returns-in_ok-push c =
    active_pushed c.args.delay c.args.now c.args.worker.now c.args.slots.now.items _ c.slot_of.result
    (sym c.is_active.ensures ∙ c.if-is_active.true) c.slot_of.ensures c.in_ok-push.ensures.items

pub returns-else-is_active : goal.returns-else-is_active
returns-else-is_active c =
    idle_left c.args.delay c.args.now c.args.worker.now c.args.slots.now.items (sym c.is_active.ensures ∙ c.if-is_active.false)
