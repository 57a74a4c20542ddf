use Rattle.std.proofs.Common.{◌≡◌, ℕ, ℤ, ◌<◌, pos, ◌-ℤ◌, ◌≤ℤ◌, List, length, get_or, set, sym, ap, subst, ◌∙◌, arith}
use Rattle.std.proofs.lemmas.List.{get_or-map, length-map, map-set}
use Rattle.std.proofs.lemmas.List.Edits.{map_over_more}
use Rattle.lg_work.specs.declared.reserve.Slot.{Slot}
use Rattle.lg_work.specs.Reserving.{slot_in, slots_in, slot_taken}
use Rattle.lg_work.proofs.TextLemmas.{read-initially}
use Rattle.lg_work.proofs.reserve.take_slot.Goals as goal

pub take_one-requires : goal.take_one-requires
take_one-requires c =
    let xs = slots_in c.args.slots.now in
    let ys = slots_in c.loop-slot.slots in
    let i = c.loop-slot.slot-index in
    let slot = get_or c.loop-slot.slots i c.slot-item.result in
    let few : i < length xs = omega (arith, length-map c.args.slots.now slot_in) in
    let here : slot_in slot ≡ get_or ys i (slot_in slot) =
    ap (λ (s : Slot). slot_in (get_or c.loop-slot.slots i s)) c.slot-item.is ∙ sym (get_or-map slot_in c.loop-slot.slots i slot (slot_in slot) (omega arith)) in
    let first : slot_in slot ≡ get_or xs i (slot_in slot) = read-initially (slot_taken c.args.worker.now) xs ys i (slot_in slot) few c.loop-slot.invariant here in
    subst (λ (s : List ℕ × ℤ). (pos 0 -ℤ pos 1000000) ≤ℤ s.1) (sym first) (c.requires i (slot_in slot) few)

pub loop-slot-preserved : goal.loop-slot-preserved
loop-slot-preserved c =
    let xs = slots_in c.args.slots.now in
    let ys = slots_in c.loop-slot.slots in
    let i = c.loop-slot.slot-index in
    let slot = get_or c.loop-slot.slots i c.slot-item.result in
    let few : i < length xs = omega (arith, length-map c.args.slots.now slot_in) in
    let here : slot_in slot ≡ get_or ys i (slot_in slot) =
    ap (λ (s : Slot). slot_in (get_or c.loop-slot.slots i s)) c.slot-item.is ∙ sym (get_or-map slot_in c.loop-slot.slots i slot (slot_in slot) (omega arith)) in
    map-set slot_in c.loop-slot.slots i _ ∙ ap (set ys i) c.take_one.ensures
    ∙ map_over_more (slot_taken c.args.worker.now) xs ys i (slot_in slot) few c.loop-slot.invariant here
