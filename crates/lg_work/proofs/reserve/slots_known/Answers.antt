use Rattle.std.proofs.Common.{◌≡◌, true, false, cond, [], IfOk, sym, ap, subst, ◌∙◌}
use Rattle.lg_calls.specs.Work.Reserved.{Slots, full_slots}
use Rattle.lg_calls.specs.Work.Walk.{is_trivial}
use Rattle.lg_work.specs.Reserving.{slots_in, slots_active}
use Rattle.lg_work.proofs.reserve.slots_known.Goals as goal

pub returns-then-is_trivial : goal.returns-then-is_trivial
returns-then-is_trivial c =
    let s = c.args.state.now in
    let trivial : true ≡ is_trivial c.args.ask.now.worker s = sym c.if-is_trivial.true ∙ c.is_trivial.ensures in
    ap slots_in c.new.ensures.items ∙ ap (λ b. cond {A = Slots} b [] (full_slots s)) trivial

pub returns : goal.returns
returns c =
    let s = c.args.state.now in
    let trivial : false ≡ is_trivial c.args.ask.now.worker s = sym c.if-is_trivial.false ∙ c.is_trivial.ensures in
    let all : slots_active s.settings.worker_disconnect_delay s.moment c.as_slice.result.now ≡ full_slots s =
    ap (slots_active s.settings.worker_disconnect_delay s.moment) c.as_slice.ensures in
    subst (λ (known : Slots). IfOk c.active_slots.result (λ slots. slots_in slots.items ≡ known))
    (all ∙ ap (λ b. cond {A = Slots} b [] (full_slots s)) trivial) c.active_slots.ensures
