-- What a worker's search keeps of what is reserved. This project's own.
use Rattle.std.specs.Prelude.{ℕ, ℤ, pos, ◌*◌, ◌^◌, ◌≤◌, ◌-ℤ◌, ◌≤ℤ◌, if◌then◌else◌, List, All, map, filter}
use Rattle.lg_base.specs.declared.moment.Moment.{Moment}
use Rattle.lg_calls.specs.declared.worker.WorkerRec.{WorkerRec}
use Rattle.lg_calls.specs.Order.{is_same}
use Rattle.lg_calls.specs.Work.Reserved as spec
use Rattle.lg_calls.specs.Work.Reserved.{Slots, is_active, slots_of}
use Rattle.lg_work.specs.declared.reserve.Slot.{Slot}
use Rattle.lg_work.specs.declared.reserve.Reserved.{Reserved}
use Rattle.lg_work.specs.Sums.{sum_of}

-- the slots that are left of an active worker
abbrev pub slot_in : Slot → List ℕ × ℤ
slot_in slot = (slot.worker.now, slot.left)

abbrev pub slots_in : List Slot → Slots
slots_in slots = map slot_in slots

-- one slot is taken, where it is of a worker
abbrev pub slot_taken : List ℕ → List ℕ × ℤ → List ℕ × ℤ
slot_taken worker slot = if is_same worker slot.0 then (slot.0, slot.1 -ℤ pos 1) else slot

-- the slots of those of some workers that are active
abbrev pub slots_active : ℕ → Moment → List WorkerRec → Slots
slots_active delay now workers = map (λ (worker : WorkerRec). (worker.id, slots_of worker)) (filter (is_active delay now) workers)

-- what is reserved, as the definitions of a worker's search have it
abbrev pub reserved_in : Reserved → spec.Reserved
reserved_in reserved = record { slots = slots_in reserved.slots.items; amounts = sum_of reserved.amounts }

-- of each worker at most so many slots were taken beyond those that it has
abbrev pub AreWithin : ℕ → Slots → Type 0
AreWithin n slots = All (λ (slot : List ℕ × ℤ). (pos 0 -ℤ pos n) ≤ℤ slot.1) slots

-- so many tasks were kept at most: of each resource no more than they can need is reserved
pub record IsWithin (n : ℕ) (reserved : spec.Reserved) : Type 0 where
  pub amounts : (name : List ℕ) → reserved.amounts name ≤ n * 2 ^ 32
  pub slots : AreWithin n reserved.slots
