-- What a net in memory tells, from what it keeps, and what it is to do. This project's own.
use Rattle.std.specs.Prelude.{◌≡◌, ℕ, ◌+◌, ◌↔◌, List, map, take, drop, length, Bool, ◌||◌, nat_lt, is_ok, if◌then◌else◌, IsTrue, IsOk, IfOk, Option, option_map, Result, Err, Vec}
use Rattle.std.specs.declared.alloc.Global.{Global}
use Rattle.lg_io.specs.declared.memory.door.MemoryDoor.{MemoryDoor}
use Rattle.lg_io.specs.declared.memory.net.BindEvent.{BindEvent}
use Rattle.lg_io.specs.declared.memory.net.MemoryNet.{MemoryNet}
use Rattle.lg_io.specs.declared.net.BindFault.{BindFault}
use Rattle.lg_io.specs.declared.net.BindFault.TheVariants.{Failed}
use Rattle.lg_io.specs.CallList.{KeptCalls, with_call}
use Rattle.lg_io.specs.FaultPlan.{behind}
use Rattle.lg_io.specs.MemoryClock.{moments_ahead}
use Rattle.lg_io.specs.MemoryDoor.{DoorScript, door_script, door_clock}
use Rattle.lg_io.specs.Net.{BindCall}

-- a call of `bind`
abbrev pub bind_call : BindEvent → BindCall
bind_call event = record { address = event.address; port = event.port; doors = event.doors }

-- the calls that a net keeps
abbrev pub net_log : {P : Type 0} → MemoryNet P → KeptCalls BindEvent
net_log net = net.binds

-- the calls that it told
abbrev pub net_binds : {P : Type 0} → MemoryNet P → Option (List BindCall)
net_binds net = option_map (map bind_call) (net_log net).told

-- how many calls failed, where its plan counts faults so; the others asked for more doors than are left
abbrev pub net_faults : {P : Type 0} → (P → ℕ) → MemoryNet P → ℕ
net_faults faults net = faults net.plan + net.lacks.met

-- how often the address of a call found no memory
abbrev pub net_unwritten : {P : Type 0} → MemoryNet P → ℕ
net_unwritten net = net.unwritten.met

-- the doors that are left
abbrev pub net_doors : {P : Type 0} → MemoryNet P → List (MemoryDoor P)
net_doors net = net.doors.items

-- the calls that are to fail, where its plan makes these fail
abbrev pub net_fails : {P : Type 0} → (P → ℕ → Bool) → MemoryNet P → ℕ → Bool
net_fails fails net = fails net.plan

-- what a door has ahead, and the moments of its clock
pub record DoorAhead (P : Type 0) : Type 0 where
  pub script : DoorScript P
  pub moments : List ℕ

-- where the door's plan makes these calls fail
abbrev pub door_ahead : {P : Type 0} → (P → ℕ → Bool) → MemoryDoor P → DoorAhead P
door_ahead fails door = record { script = door_script fails door; moments = moments_ahead (door_clock door) }

-- whether a call fails: it is to, or it asks for more doors than are left
abbrev pub bind_fails : {P : Type 0} → (P → ℕ → Bool) → MemoryNet P → ℕ → Bool
bind_fails due net doors = net_fails due net 0 || nat_lt (length (net_doors net)) doors

-- One call: it fails exactly where it has to, and else hands out the next doors, begun anew, if it found memory.
-- It is told, if its address found memory.
pub record BindsByScript {P : Type 0} (due script : P → ℕ → Bool) (old new : MemoryNet P) (call : BindEvent)
    (answer : Result (Vec (MemoryDoor P) Global) BindFault) : Type 0 where
  pub fails : (answer ≡ Err Failed) ↔ IsTrue (bind_fails due old call.doors)
  pub gives : IfOk answer (λ doors.
      map (door_ahead due) doors.items ≡ map (door_ahead script) (take call.doors (net_doors old)))
  pub left : net_doors new ≡ (if is_ok answer then drop call.doors (net_doors old) else net_doors old)
  pub written : IsOk answer → net_unwritten new ≡ net_unwritten old
  pub told : net_unwritten new ≡ net_unwritten old → net_log new ≡ with_call (net_log old) call
  pub goes_on : net_fails due new ≡ behind (net_fails due old)
