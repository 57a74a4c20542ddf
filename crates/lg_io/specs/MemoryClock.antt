-- What a clock in memory tells, from what it keeps, and what it is to do. This project's own.
use Rattle.std.specs.Prelude.{◌≡◌, ℕ, ◌-◌, ◌^◌, min, max, List, [], ◌∷◌, map, drop, Option, option_map}
use Rattle.lg_base.specs.declared.moment.Moment.{Moment}
use Rattle.lg_io.specs.declared.memory.clock.MemoryClock.{MemoryClock}
use Rattle.lg_io.specs.declared.memory.clock.ClockEvent.{ClockEvent}
use Rattle.lg_io.specs.declared.memory.clock.ClockEvent.TheVariants.{Reading, Pause}
use Rattle.lg_io.specs.CallList.{KeptCalls, with_call}
use Rattle.lg_io.specs.Clock.{ClockCall, reading, pause}

-- a call of a clock
abbrev pub clock_call : ClockEvent → ClockCall
clock_call (Reading moment) = reading moment.0
clock_call (Pause ms) = pause ms

-- the calls that a clock keeps
abbrev pub clock_log : MemoryClock → KeptCalls ClockEvent
clock_log clock = clock.calls

-- the calls that it told
abbrev pub clock_calls : MemoryClock → Option (List ClockCall)
clock_calls clock = option_map (map clock_call) (clock_log clock).told

-- the last moment that it gave, or 0
abbrev pub clock_latest : MemoryClock → ℕ
clock_latest clock = clock.latest.0

-- moments, in milliseconds
abbrev pub milliseconds : List Moment → List ℕ
milliseconds moments = map (λ m. m.0) moments

-- the moments that it has ahead
abbrev pub moments_ahead : MemoryClock → List ℕ
moments_ahead clock = milliseconds clock.moments.items

-- the next moment of a list, not before the latest and below 2^62; behind the list the latest stays
abbrev pub next_moment : List ℕ → ℕ → ℕ
next_moment [] latest = latest
next_moment (ms ∷ later) latest = max (min ms (2 ^ 62 - 1)) latest

-- one reading: it gives the next moment of those ahead, the others stay ahead, and it is told where there is room
pub record GivesNext (old new : MemoryClock) (moment : Moment) : Type 0 where
  pub is : moment.0 ≡ next_moment (moments_ahead old) (clock_latest old)
  pub goes_on : moments_ahead new ≡ drop 1 (moments_ahead old)
  pub kept : clock_log new ≡ with_call (clock_log old) (Reading moment)

-- one pause: the moments stay ahead, and it is told where there is room
pub record PausesFor (old new : MemoryClock) (ms : ℕ) : Type 0 where
  pub stays : moments_ahead new ≡ moments_ahead old
  pub kept : clock_log new ≡ with_call (clock_log old) (Pause ms)
