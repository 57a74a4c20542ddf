-- Which states and tasks can be listed. This project's own.
use Rattle.std.specs.Prelude.{◌-◌, ◌^◌}
use Rattle.lg_base.specs.declared.moment.Moment.{Moment}
use Rattle.lg_calls.specs.declared.state.State.{State}
use Rattle.lg_calls.specs.Valid.{IsValidState}

-- the last moment that a state can have
abbrev pub last_moment : Moment
last_moment = record { 0 = 2 ^ 62 - 1 }

-- the state would be valid at the last moment, as each valid state is
abbrev pub CanBeListed : State → Type 0
CanBeListed s = IsValidState (record s { moment = last_moment })
