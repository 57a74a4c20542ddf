use Rattle.std.proofs.Common.{◌≡◌, ◌++◌, take, drop, map}
use Rattle.lg_work.specs.Reserving.{slots_in, slot_taken}
use Rattle.lg_work.proofs.reserve.take_slot.Given as goal

abbrev pub invariant-loop-slot : goal.invariant-loop-slot
invariant-loop-slot l =
    slots_in l.slots ≡ map (slot_taken l.worker) (take l.slot-index (slots_in l.initial.slots)) ++ drop l.slot-index (slots_in l.initial.slots)
