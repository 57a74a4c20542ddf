use Rattle.std.proofs.Common.{◌≡◌, ◌+◌, List, ap, subst, sym, ◌∙◌, arith, rules}
use Rattle.std.specs.Vec.{with_items}
use Rattle.std.proofs.lemmas.List.{with_items_is, places}
use Rattle.std.proofs.lemmas.Result.{on_ok_weaker}
use Rattle.lg_calls.specs.Work.Reserved.{with_slot_taken}
use Rattle.lg_work.specs.declared.reserve.Slot.{Slot}
use Rattle.lg_work.specs.Reserving.{reserved_in, slots_in, AreWithin, IsWithin}
use Rattle.lg_work.proofs.ReserveLemmas.{IsWithin-kept, kept_is}
use Rattle.lg_work.proofs.UseLemmas.{on_both}
use Rattle.lg_work.proofs.reserve.Reserved.keep.Goals as goal

pub take_slot-requires : goal.take_slot-requires
take_slot-requires c =
    let before : c.as_mut_slice.result.now ≡ c.args.self.now.slots.items = search rules in
    subst (λ (slots : List Slot). AreWithin 1000000 (slots_in slots)) (sym before) c.requires.slots

pub add_task-requires : goal.add_task-requires
add_task-requires c = λ name. omega (arith, c.requires.amounts name)

pub returns : goal.returns
returns c =
    let worker = c.args.worker.now in
    let task = c.args.task.now in
    let old = c.args.self.now in
    let before : c.as_mut_slice.result.now ≡ old.slots.items = search rules in
    let behind : (with_items old.slots c.take_slot.new.slots).items ≡ c.take_slot.new.slots = with_items_is old.slots c.take_slot.new.slots (search (rules, places)) in
    let taken : slots_in (with_items old.slots c.take_slot.new.slots).items ≡ with_slot_taken worker (slots_in old.slots.items) =
    ap slots_in behind ∙ c.take_slot.ensures ∙ ap (λ (slots : List Slot). with_slot_taken worker (slots_in slots)) before in
    record {
      next = on_ok_weaker c.add_task.result (λ added. kept_is worker task (reserved_in old) _ _ taken added) c.add_task.ensures.added;
      within = on_both c.add_task.result
          (λ added small n within.
          subst (IsWithin (n + 1)) (sym (kept_is worker task (reserved_in old) _ _ taken added)) (IsWithin-kept n worker task (reserved_in old) small within))
          c.add_task.ensures.added c.add_task.ensures.small;
    }
