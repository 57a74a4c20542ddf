use Rattle.std.proofs.Common.{◌≡◌, ℕ, ℤ, List, sym, ◌∙◌, rules, tests}
use Rattle.std.specs.List.{list_any}
use Rattle.std.proofs.lemmas.Iterator.{YieldsList-from_slice}
use Rattle.std.proofs.lemmas.Iterator.Search.{any_from_yields_List}
use Rattle.lg_calls.specs.Order.{is_same}
use Rattle.lg_work.specs.declared.reserve.Slot.{Slot}
use Rattle.lg_work.specs.Reserving.{slot_in}
use Rattle.lg_work.proofs.ReserveLemmas.{any_map}
use Rattle.lg_work.proofs.reserve.has_slots.Goals as goal

pub returns : goal.returns
returns c =
    let lent : c.any.result ≡ list_any (λ (slot : Slot). is_same c.args.worker.now slot.worker.now) c.args.slots.now =
    any_from_yields_List (λ (slot : Slot). is_same c.args.worker.now slot.worker.now) _ _ c.any.result c.any.ensures.ran (YieldsList-from_slice c.args.slots.now cc) (λ x b q k. search (rules, tests)) in
    lent ∙ sym (any_map slot_in (λ (slot : List ℕ × ℤ). is_same c.args.worker.now slot.0) c.args.slots.now)
