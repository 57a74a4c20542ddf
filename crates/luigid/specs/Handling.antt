-- What one message does to a life, behind its connection. This project's own.
use Rattle.std.specs.Prelude.{◌≡◌, ℕ, List, ◌++◌, map, Option}
use Rattle.std.specs.Option.{option_to_list}
use Rattle.lg_http.specs.Messages.{WholeMessage}
use Rattle.lg_io.specs.Clock.{ClockCall, reading}
use Rattle.lg_io.specs.Tells.{TellsOn}
use Rattle.lg_desk.specs.declared.journal.Entry.{Entry}
use Rattle.lg_calls.specs.declared.state.State.{State}
use Rattle.lg_desk.specs.Replay.{answered, made_by}
use Rattle.luigid.specs.Session.{Handled, IsHandled}
use Rattle.luigid.specs.Transcript.{Answer}

-- A message was handled: it has this answer, its pass made its call alone, if it is one, and the clock was read for it
-- alone.
pub record Handles (base : State) (lane connection nth : ℕ) (message : WholeMessage) (answer : Answer) (old new : List Entry) (before after : Option (List ClockCall)) : Type 0 where
  pub handled : Handled
  pub message_is : handled.message ≡ message
  pub answer_is : handled.answer ≡ answer
  pub is_handled : IsHandled new lane connection nth handled
  pub made : made_by lane (answered base new) ≡ made_by lane (answered base old) ++ option_to_list handled.call
  pub read : TellsOn before after (map reading handled.moments)
