-- The connections of a door in one life, in order. This project's own.
use Rattle.std.specs.Prelude.{◌≡◌, ℕ, ◌+◌, false, List, ◌∷◌, ◌++◌, map, length, Option}
use Rattle.std.specs.List.{flat_map}
use Rattle.lg_io.specs.Clock.{ClockCall, reading}
use Rattle.lg_io.specs.Door.{DoorTold}
use Rattle.lg_io.specs.Tells.{TellsOn}
use Rattle.lg_desk.specs.declared.journal.Entry.{Entry}
use Rattle.lg_calls.specs.declared.state.State.{State}
use Rattle.lg_desk.specs.Journal.{is_over}
use Rattle.lg_desk.specs.Replay.{Answered, answered, made_by}
use Rattle.luigid.specs.Session.{Session, calls_of, moments_of, Each, IsServed}

-- the entries of some connections
abbrev pub entries_of : List Session → List Entry
entries_of sessions = map (λ (a : Answered). a.entry) (flat_map calls_of sessions)

-- a link was accepted only while what the lane had entered wasn't over
abbrev pub NoLinkBehindEnd : List Session → Type 0
NoLinkBehindEnd sessions =
    (front : List Session) (s : Session) (back : List Session) → sessions ≡ front ++ s ∷ back → is_over (entries_of front) ≡ false

-- A door that tells, and its clock, served these connections of a life with that base and that journal; it may have
-- served others before.
pub record IsLane (base : State) (journal : List Entry) (lane : ℕ) (old new : DoorTold) (before after : Option (List ClockCall)) (sessions : List Session) : Type 0 where
  -- each link that was handed out was handed back, and they are these, in order
  pub links : new.ended ≡ old.ended ++ map (λ (s : Session). s.link) sessions
  pub all_back : new.handed ≡ old.handed + length sessions
  pub served : Each (IsServed journal lane) sessions
  -- the journal has each of their calls once, in order, with its reply, and no other of the lane
  pub made : made_by lane (answered base journal) ≡ flat_map calls_of sessions
  -- the clock was read for these calls, and nothing else was asked of it
  pub read : TellsOn before after (map reading (flat_map moments_of sessions))
  pub none_behind : NoLinkBehindEnd sessions
