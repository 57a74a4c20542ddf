use Rattle.std.proofs.Common.{◌≡◌, take}
use Rattle.lg_work.specs.Reserving.{slots_in, slots_active}
use Rattle.lg_work.proofs.reserve.active_slots.Given as goal

abbrev pub invariant-loop-worker : goal.invariant-loop-worker
invariant-loop-worker l = slots_in l.slots.items ≡ slots_active l.delay l.now (take l.worker-index l.workers)
