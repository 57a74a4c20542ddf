-- What serving one connection does to a life, for a link that tells what it received and took. This project's own.
use Rattle.std.specs.Prelude.{◌≡◌, ℕ, List, ◌++◌, map, Option, Some}
use Rattle.lg_io.specs.Clock.{ClockCall, reading}
use Rattle.lg_io.specs.Link.{LinkTold, ended_link}
use Rattle.lg_io.specs.Tells.{TellsOn}
use Rattle.lg_desk.specs.declared.journal.Entry.{Entry}
use Rattle.lg_calls.specs.declared.state.State.{State}
use Rattle.lg_desk.specs.Replay.{answered, made_by}
use Rattle.luigid.specs.Session.{Session, calls_of, moments_of, IsServed}

-- A connection was served: what its link tells is what the session says, the calls that its pass made meanwhile are the
-- session's, in order, and the clock was read for them alone.
pub record Serves (base : State) (lane connection : ℕ) (old new : List Entry) (before after : Option (List ClockCall)) (link : LinkTold) : Type 0 where
  pub session : Session
  pub link_is : ended_link link ≡ Some session.link
  pub served : IsServed new lane connection session
  pub made : made_by lane (answered base new) ≡ made_by lane (answered base old) ++ calls_of session
  pub read : TellsOn before after (map reading (moments_of session))
