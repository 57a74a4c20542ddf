-- One connection of a life: its messages, with their answers and their calls. This project's own.
use Rattle.std.specs.Prelude.{◌≡◌, ℕ, ◌<◌, ◌≤◌, ◌⊎◌, Bool, true, false, List, [], ◌∷◌, ◌++◌, map, length, slice_get, All, Option, Some, None, Result, Ok, Err}
use Rattle.std.specs.List.{concat, flat_map, filter_map}
use Rattle.lg_io.specs.Link.{EndedLink}
use Rattle.lg_io.specs.Sink.{IsPrefix}
use Rattle.lg_http.specs.Answers.{max_quiets}
use Rattle.lg_http.specs.Fields.{is_sized, closes}
use Rattle.lg_http.specs.Messages.{WholeMessage, message_bytes, IsMessage, IsBad, IsUndecided, WantsMemory}
use Rattle.lg_desk.specs.declared.journal.Entry.{Entry}
use Rattle.luigid.specs.declared.refusal.NoCall.{NoCall}
use Rattle.lg_calls.specs.declared.request.Request.{Request}
use Rattle.lg_calls.specs.Outcome.{Outcome}
use Rattle.luigid.specs.Call.{call_of, size_of, MayWantMemory}
use Rattle.lg_desk.specs.Journal.{is_over}
use Rattle.lg_desk.specs.Replay.{Answered}
use Rattle.luigid.specs.Transcript.{Answer, stepped, not_called, no_memory, is_last, response_of, error_response}

-- a message that was answered: its call as the journal has it, if it was entered, and the moments that the clock gave
-- for it
pub record Handled : Type 0 where
  pub message : WholeMessage
  pub answer : Answer
  pub call : Option Answered
  pub moments : List ℕ

-- How a connection ended: behind its last response; where no message stood, which is answered with that status; at the
-- end of its input; where its source stayed quiet; by a read that failed; by a write that failed; or for want of memory.
pub data LinkEnd : Type 0 where
  closed at_end idle unread unwritten without_memory : LinkEnd
  bad : ℕ → LinkEnd

-- a connection from its first byte to its end: what its link did, the messages that were answered, the bytes behind
-- them, and how it ended
pub record Session : Type 0 where
  pub link : EndedLink
  pub handled : List Handled
  pub rest : List ℕ
  pub end : LinkEnd

-- its calls as the journal has them, and the moments that the clock gave for them
abbrev pub calls_of : Session → List Answered
calls_of session = filter_map (λ (h : Handled). h.call) session.handled

abbrev pub moments_of : Session → List ℕ
moments_of session = flat_map (λ (h : Handled). h.moments) session.handled

-- the request that a message makes, or why it makes none
abbrev pub asked_by : WholeMessage → Result Request NoCall
asked_by m = call_of m.head.method (is_sized m.head) m.head.target m.body

-- the entry of a message that makes that request, at that moment
abbrev pub entry_of : ℕ → ℕ → ℕ → WholeMessage → Request → ℕ → Entry
entry_of lane connection nth m request now = record {
  pass = lane;
  who = record { lane = lane; connection = connection; nth = nth; size = size_of m.head.method m.head.target m.body };
  now = record { 0 = now };
  request = request;
}

-- A received call: it was entered with the one moment that the clock gave for it, and what its step came to is what the
-- one-thread scheduler's does. The mark is set where the journal was over right behind it, and only where it is over.
pub record IsStepped (journal : List Entry) (lane connection nth : ℕ) (h : Handled) (outcome : Outcome) (mark : Bool) : Type 0 where
  pub now : ℕ
  pub request : Request
  pub over : Bool
  pub is_call : asked_by h.message ≡ Ok request
  pub entered : h.call ≡ Some (record { entry = entry_of lane connection nth h.message request now; outcome = outcome; over = over })
  pub read_once : h.moments ≡ now ∷ []
  pub marked : over ≡ true → mark ≡ true
  pub only_over : mark ≡ true → is_over journal ≡ true

-- a message that makes no call, for this reason: nothing is entered, and the clock isn't read
pub record IsNotCalled (h : Handled) (reason : NoCall) : Type 0 where
  pub is_reason : asked_by h.message ≡ Err reason
  pub not_entered : h.call ≡ None
  pub not_read : h.moments ≡ []

-- the clock is read at most once for a call, and never for what makes none
abbrev pub ReadsFor : Result Request NoCall → List ℕ → Type 0
ReadsFor (Ok request) moments = length moments ≤ 1
ReadsFor (Err reason) moments = moments ≡ []

-- memory ran out in reading the payload, or in the call: nothing is entered
pub record IsWithoutMemory (h : Handled) : Type 0 where
  pub was_read : MayWantMemory (asked_by h.message)
  pub not_entered : h.call ≡ None
  pub read_once : ReadsFor (asked_by h.message) h.moments

-- what each answer says of its message
abbrev pub IsAnswered : List Entry → ℕ → ℕ → ℕ → Handled → Answer → Type 0
IsAnswered journal lane connection nth h (stepped outcome mark) = IsStepped journal lane connection nth h outcome mark
IsAnswered journal lane connection nth h (not_called reason) = IsNotCalled h reason
IsAnswered journal lane connection nth h no_memory = IsWithoutMemory h

-- the nth message of a connection was answered as it is to be
abbrev pub IsHandled : List Entry → ℕ → ℕ → ℕ → Handled → Type 0
IsHandled journal lane connection nth h = IsAnswered journal lane connection nth h h.answer

-- its response is the connection's last
abbrev pub ends_connection : Handled → Bool
ends_connection h = is_last (closes h.message.head) h.answer

-- P of each item with its place
abbrev pub Each : {A : Type 0} → (ℕ → A → Type 0) → List A → Type 0
Each {A} P items = (place : ℕ) (item : A) → slice_get items place ≡ Some item → P place item

-- the response that an end writes, if it writes one
abbrev pub end_response : LinkEnd → List (List ℕ)
end_response closed = []
end_response at_end = []
end_response idle = []
end_response unread = []
end_response unwritten = []
end_response without_memory = []
end_response (bad status) = error_response status ∷ []

-- the responses of a connection, in order: one to each message, and the error response where no message stood
abbrev pub responses : Session → List (List ℕ)
responses session = map (λ (h : Handled). response_of h.answer (ends_connection h)) session.handled ++ end_response session.end

-- a connection's transcript is its responses, one behind the other
abbrev pub transcript : Session → List ℕ
transcript session = concat (responses session)

-- a response behind which the connection goes on
abbrev pub GoesOn : Handled → Type 0
GoesOn h = ends_connection h ≡ false

-- the last response is the connection's last, and those before it aren't
pub record EndsLast (handled : List Handled) : Type 0 where
  pub front : List Handled
  pub last : Handled
  pub whole : handled ≡ front ++ last ∷ []
  pub before : All GoesOn front
  pub closes : ends_connection last ≡ true

-- nothing, or a message that is cut short
abbrev pub IsCut : List ℕ → Type 0
IsCut rest = (rest ≡ []) ⊎ IsUndecided rest

-- all responses were written, and nothing failed
pub record IsWhole (responses : List (List ℕ)) (link : EndedLink) : Type 0 where
  pub written : link.written ≡ concat responses
  pub fine : link.faults ≡ 0

-- all responses were written, and a read failed
pub record IsUnread (responses : List (List ℕ)) (link : EndedLink) : Type 0 where
  pub written : link.written ≡ concat responses
  pub failed : 0 < link.faults

-- the last response was cut by a fault, and all before it were written whole
pub record IsCutShort (responses : List (List ℕ)) (link : EndedLink) : Type 0 where
  pub front : List (List ℕ)
  pub last : List ℕ
  pub part : List ℕ
  pub are : responses ≡ front ++ last ∷ []
  pub is_part : IsPrefix part last
  pub written : link.written ≡ concat front ++ part
  pub failed : 0 < link.faults

-- a connection for which no reader could be made: its link is as it was handed out
pub record IsUnheard (session : Session) : Type 0 where
  pub nothing_handled : session.handled ≡ []
  pub nothing_received : session.link.received ≡ []
  pub never_quiet : session.link.quiets ≡ 0

-- The cause of each end. Behind a last response nothing is answered; where the connection ended before one, every
-- message that was whole is answered, but where a reader wanted memory for the next.
abbrev pub HasEnd : LinkEnd → Session → Type 0
HasEnd closed s = EndsLast s.handled × IsWhole (responses s) s.link
HasEnd at_end s = All GoesOn s.handled × IsCut s.rest × IsWhole (responses s) s.link
HasEnd idle s = All GoesOn s.handled × IsCut s.rest × IsWhole (responses s) s.link × (s.link.quiets ≡ max_quiets)
HasEnd unread s = All GoesOn s.handled × IsCut s.rest × IsUnread (responses s) s.link
HasEnd unwritten s = (All GoesOn s.handled ⊎ EndsLast s.handled) × IsCutShort (responses s) s.link
HasEnd without_memory s = All GoesOn s.handled × (WantsMemory s.rest ⊎ IsUnheard s) × IsWhole (responses s) s.link
HasEnd (bad status) s =
    All GoesOn s.handled × IsBad status s.rest × (IsWhole (responses s) s.link ⊎ IsCutShort (responses s) s.link)

-- the source answered its end
abbrev pub is_at_end : LinkEnd → Bool
is_at_end closed = false
is_at_end at_end = true
is_at_end idle = false
is_at_end unread = false
is_at_end unwritten = false
is_at_end without_memory = false
is_at_end (bad status) = false

-- A connection of a lane was served as it is to be, in a life with this journal.
pub record IsServed (journal : List Entry) (lane connection : ℕ) (session : Session) : Type 0 where
  -- its input is these messages, and then the rest
  pub messages : All (λ (h : Handled). IsMessage h.message) session.handled
  pub received : session.link.received ≡ flat_map (λ (h : Handled). message_bytes h.message) session.handled ++ session.rest
  -- each message has its answer, in order
  pub answered : Each (IsHandled journal lane connection) session.handled
  -- it ended for a cause, with all responses before the last written whole
  pub ended : session.link.ended ≡ is_at_end session.end
  pub has_end : HasEnd session.end session
