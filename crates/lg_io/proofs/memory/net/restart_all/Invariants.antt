use Rattle.std.proofs.Common.{◌≡◌, take, All, map}
use Rattle.lg_io.specs.MemoryDoor.{IsUnusedDoor}
use Rattle.lg_io.specs.MemoryNet.{door_ahead}
use Rattle.lg_io.proofs.Restarts.{seen}
use Rattle.lg_io.proofs.memory.net.restart_all.Given as goal

-- the doors before the index are unused and have their whole scripts ahead, and the others are as they were
abbrev pub invariant-loop-door : goal.invariant-loop-door
invariant-loop-door g l =
    record {
      unused : All (IsUnusedDoor g.P.FaultPlan.faults) (take l.door-index l.doors);
      ahead : seen (door_ahead g.P.FaultPlan.due) (door_ahead g.P.FaultPlan.script) l.door-index l.doors
          ≡ map (door_ahead g.P.FaultPlan.script) l.fn.doors;
    }
