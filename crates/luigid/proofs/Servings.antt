-- A connection that goes on by one message.
use Rattle.std.proofs.Common.{◌≡◌, ℕ, List, [], ◌∷◌, ◌++◌, length, map, All, refl, sym, ◌∙◌, ap, subst, append_assoc, arith, Option, Some, None}
use Rattle.std.proofs.lemmas.Grind.{common_steps, flat_map-append}
use Rattle.std.proofs.lemmas.List.{append-nil}
use Rattle.std.proofs.lemmas.List.Elements.{All-nil, All-push, filter_map-append}
use Rattle.std.specs.List.{cons_option, flat_map, filter_map}
use Rattle.std.specs.Option.{option_to_list}
use Rattle.lg_http.specs.Messages.{WholeMessage, message_bytes, IsMessage}
use Rattle.lg_io.specs.Clock.{ClockCall, reading}
use Rattle.lg_io.specs.Tells.{TellsOn}
use Rattle.lg_io.proofs.CallerLemmas.{TellsOn-nothing, TellsOn-append}
use Rattle.lg_desk.specs.declared.journal.Entry.{Entry}
use Rattle.lg_calls.specs.declared.state.State.{State}
use Rattle.luigid.specs.Handling.{Handles}
use Rattle.lg_desk.specs.Journal.{GoesOnBy}
use Rattle.lg_desk.specs.Replay.{Answered, answered, made_by}
use Rattle.luigid.specs.Session.{Handled, Each, IsAnswered, IsHandled}
use Rattle.luigid.specs.Transcript.{Answer, stepped, not_called, no_memory}
use Rattle.lg_desk.proofs.CallerLemmas.{over_for_good}
use Rattle.luigid.proofs.Places.{Each-push, Each-map}

-- what an answer says of its message stays where the journal goes on
answered_stays : (journal more : List Entry) (lane connection nth : ℕ) (h : Handled) (answer : Answer)
    → IsAnswered journal lane connection nth h answer → IsAnswered (journal ++ more) lane connection nth h answer
answered_stays journal more lane connection nth h (stepped outcome mark) is = record {
  now = is.now;
  request = is.request;
  over = is.over;
  is_call = is.is_call;
  entered = is.entered;
  read_once = is.read_once;
  marked = is.marked;
  only_over = λ marked. over_for_good journal more (is.only_over marked);
}
answered_stays journal more lane connection nth h (not_called reason) is = is
answered_stays journal more lane connection nth h no_memory is = is

-- each of some messages stays handled
pub all_stay : (lane connection : ℕ) (old new : List Entry) (handled : List Handled) → GoesOnBy lane old new
    → Each (IsHandled old lane connection) handled → Each (IsHandled new lane connection) handled
all_stay lane connection old new handled goes each =
    subst (λ (j : List Entry). Each (IsHandled j lane connection) handled) (sym goes.goes_on)
    (Each-map _ _ handled (λ place h is. answered_stays old goes.entries lane connection place h h.answer is) each)

-- what a connection did so far: the messages that were handled, the bytes behind them, all the bytes, its calls, and its clock
pub record IsHeard (base : State) (lane connection : ℕ) (old new : List Entry) (handled : List Handled) (left bytes : List ℕ) (before now : Option (List ClockCall)) : Type 0 where
  pub messages : All (λ (h : Handled). IsMessage h.message) handled
  pub received : bytes ≡ flat_map (λ (h : Handled). message_bytes h.message) handled ++ left
  pub each : Each (IsHandled new lane connection) handled
  pub made : made_by lane (answered base new) ≡ made_by lane (answered base old) ++ filter_map (λ (h : Handled). h.call) handled
  pub read : TellsOn before now (map reading (flat_map (λ (h : Handled). h.moments) handled))

-- nothing was handled yet
pub heard_nothing : (base : State) (lane connection : ℕ) (journal : List Entry) (calls : Option (List ClockCall))
    → IsHeard base lane connection journal journal [] [] [] calls calls
heard_nothing base lane connection journal calls = record {
  messages = All-nil (λ (h : Handled). IsMessage h.message);
  received = refl;
  each = λ place item is. absurd (cc);
  made = sym (append-nil _);
  read = TellsOn-nothing calls;
}

-- bytes that are no message stay behind the messages
pub heard_rest : (base : State) (lane connection : ℕ) (old new : List Entry) (handled : List Handled) (left got bytes : List ℕ) (before now : Option (List ClockCall))
    → IsHeard base lane connection old new handled left bytes before now → IsHeard base lane connection old new handled (left ++ got) (bytes ++ got) before now
heard_rest base lane connection old new handled left got bytes before now heard = record {
  messages = heard.messages;
  received = rw heard.received (append_assoc _ left got);
  each = heard.each;
  made = heard.made;
  read = heard.read;
}

-- the bytes of one more message
bytes_more : (before left got left' : List ℕ) (handled : List Handled) (h : Handled)
    → before ≡ flat_map (λ (h : Handled). message_bytes h.message) handled ++ left
    → left ++ got ≡ message_bytes h.message ++ left'
    → before ++ got ≡ flat_map (λ (h : Handled). message_bytes h.message) (handled ++ h ∷ []) ++ left'
bytes_more before left got left' handled h is next =
    rw (flat_map-append, is) (append_assoc _ left got ∙ ap (λ rest. flat_map (λ (h : Handled). message_bytes h.message) handled ++ rest) next ∙ grind (arith, common_steps))

one_call : (call : Option Answered) → cons_option call [] ≡ option_to_list call
one_call None = refl
one_call (Some a) = refl

-- the calls of a connection, behind a message
made_more : (old middle new : List Answered) (handled : List Handled) (h : Handled)
    → middle ≡ old ++ filter_map (λ (h : Handled). h.call) handled → new ≡ middle ++ option_to_list h.call
    → new ≡ old ++ filter_map (λ (h : Handled). h.call) (handled ++ h ∷ [])
made_more old middle new handled h first second =
    second ∙ ap (λ front. front ++ option_to_list h.call) first ∙ append_assoc old _ (option_to_list h.call)
    ∙ ap (λ last. old ++ (filter_map (λ (h : Handled). h.call) handled ++ last)) (sym (one_call h.call))
    ∙ ap (λ calls. old ++ calls) (sym (filter_map-append (λ (h : Handled). h.call) handled (h ∷ [])))

-- the readings of the clock, behind a message
read_more : (handled : List Handled) (h : Handled) → map reading (flat_map (λ (h : Handled). h.moments) (handled ++ h ∷ [])) ≡ map reading (flat_map (λ (h : Handled). h.moments) handled) ++ map reading h.moments
read_more handled h = grind (arith, common_steps)

-- one more message was handled
pub heard_more : (base : State) (lane connection : ℕ) (old middle new : List Entry) (handled : List Handled) (left got left' bytes : List ℕ) (before now after : Option (List ClockCall)) (message : WholeMessage) (answer : Answer)
    → IsHeard base lane connection old middle handled left bytes before now
    → (handles : Handles base lane connection (length handled) message answer middle new now after)
    → GoesOnBy lane middle new
    → IsMessage message → left ++ got ≡ message_bytes message ++ left'
    → IsHeard base lane connection old new (handled ++ handles.handled ∷ []) left' (bytes ++ got) before after
heard_more base lane connection old middle new handled left got left' bytes before now after message answer heard handles goes is_message next =
    let h = handles.handled in
    record {
      messages = All-push (λ (h : Handled). IsMessage h.message) handled h heard.messages (subst IsMessage (sym handles.message_is) is_message);
      received = bytes_more bytes left got left' handled h heard.received (rw handles.message_is next);
      each = Each-push _ handled h (all_stay lane connection middle new handled goes heard.each) handles.is_handled;
      made = made_more _ _ _ handled h heard.made handles.made;
      read = subst (TellsOn before after) (sym (read_more handled h)) (TellsOn-append before now after _ _ heard.read handles.read);
    }
