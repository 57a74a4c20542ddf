-- What a door and its clock tell. This project's own.
use Rattle.std.specs.Prelude.{ℕ, List, Option}
use Rattle.lg_io.specs.Clock.{ClockCall}
use Rattle.lg_io.specs.Door.{DoorTold}

-- what a door did, how many of its calls of `accept` met a fault, and the calls of its clock
pub record DoorSeen : Type 0 where
  pub door : Option DoorTold
  pub faults : ℕ
  pub calls : Option (List ClockCall)
