-- What a net was asked. This project's own.
use Rattle.std.specs.Prelude.{◌≡◌, ℕ, Bool, false, List, [], Option, IfSome}
use Rattle.lg_io.specs.Door.{DoorTold, unused_door}
use Rattle.lg_io.specs.Clock.{ClockCall}

-- a call of `bind`: the address, the port and how many doors were asked for
pub record BindCall : Type 0 where
  pub address : List ℕ
  pub port : ℕ
  pub doors : ℕ

-- A door that nobody used: what it and its clock tell, its faults, and whether it is closed.
pub record IsUnused (door : Option DoorTold) (calls : Option (List ClockCall)) (faults : ℕ) (is_closed : Bool) : Type 0 where
  pub did_nothing : IfSome door (λ d. d ≡ unused_door)
  pub read_nothing : IfSome calls (λ c. c ≡ [])
  pub met_nothing : faults ≡ 0
  pub answered_nothing : is_closed ≡ false
