-- What an object tells beside what the trait at hand tells of it. This project's own.
use Rattle.std.specs.Prelude.{ℕ, Bool, List, Option}
use Rattle.lg_io.specs.Source.{Received}
use Rattle.lg_io.specs.Door.{DoorTold}

-- nothing; or what the source or the sink of the same link tells, or the door of the same clock, with its faults; of a
-- source also whether it answered its end, and of a door whether it is closed
pub data Rest : Type 0 where
  nothing : Rest
  of_source : Option Received → ℕ → Bool → Rest
  of_sink : Option (List ℕ) → ℕ → Rest
  of_door : Option DoorTold → ℕ → Bool → Rest
