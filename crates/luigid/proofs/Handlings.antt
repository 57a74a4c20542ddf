-- What handling a message does, outcome by outcome.
use Rattle.std.proofs.Common.{◌≡◌, ℕ, Bool, List, [], ◌∷◌, ◌++◌, map, refl, sym, ◌∙◌, ap, arith, Option, Some, None, Result, Ok, Err}
use Rattle.std.proofs.lemmas.List.{append-nil}
use Rattle.lg_base.specs.declared.moment.Moment.{Moment}
use Rattle.lg_http.specs.declared.message.Message.{Message}
use Rattle.lg_http.specs.Answers.{Shows}
use Rattle.lg_http.specs.Messages.{WholeMessage}
use Rattle.lg_io.specs.Clock.{ClockCall, reading}
use Rattle.lg_io.specs.Tells.{TellsOn}
use Rattle.lg_io.proofs.CallerLemmas.{TellsOn-nothing}
use Rattle.lg_desk.specs.declared.journal.Entry.{Entry}
use Rattle.lg_calls.specs.Outcome.{Outcome}
use Rattle.luigid.specs.declared.refusal.NoCall.{NoCall}
use Rattle.lg_calls.specs.declared.request.Request.{Request}
use Rattle.lg_calls.specs.declared.state.State.{State}
use Rattle.luigid.specs.Call.{call_of, size_of, MayWantMemory}
use Rattle.luigid.specs.Handling.{Handles}
use Rattle.lg_desk.specs.Journal.{is_over}
use Rattle.lg_desk.specs.Replay.{Answered, replay, answered, made_by}
use Rattle.luigid.specs.Session.{ReadsFor, asked_by, entry_of}
use Rattle.lg_calls.specs.Step.{step}
use Rattle.luigid.specs.Transcript.{stepped, not_called, no_memory}
use Rattle.lg_desk.proofs.CallerLemmas.{answer_to, made-push}

-- a message makes the call of its parts
pub shown_call : (message : Message) (arrived : WholeMessage) → Shows message arrived
    → call_of message.verb message.sized message.target message.body.items ≡ asked_by arrived
shown_call message arrived shows = rw (shows.verb, shows.sized, shows.target, shows.body) refl

-- and has the size of its parts
pub shown_size : (message : Message) (arrived : WholeMessage) → Shows message arrived
    → size_of message.verb message.target message.body.items ≡ size_of arrived.head.method arrived.head.target arrived.body
shown_size message arrived shows = rw (shows.verb, shows.target, shows.body) refl

-- what was made of the parts is the entry of the message
pub same_entry : (lane connection nth pass size : ℕ) (message : WholeMessage) (request : Request) (now : Moment)
    → pass ≡ lane → size ≡ size_of message.head.method message.head.target message.body
    → ◌≡◌ {A = Entry} (record { pass = pass; who = record { lane = lane; connection = connection; nth = nth; size = size }; now = now; request = request }) (entry_of lane connection nth message request now.0)
same_entry lane connection nth pass size message request now pass_is size_is = rw (pass_is, size_is) refl

pub handles_nothing : (base : State) (lane connection nth : ℕ) (message : WholeMessage) (journal : List Entry) (calls : Option (List ClockCall)) (reason : NoCall)
    → asked_by message ≡ Err reason → Handles base lane connection nth message (not_called reason) journal journal calls calls
handles_nothing base lane connection nth message journal calls reason is_reason = record {
  handled = record { message = message; answer = not_called reason; call = None; moments = [] };
  message_is = refl;
  answer_is = refl;
  is_handled = record { is_reason = is_reason; not_entered = refl; not_read = refl };
  made = sym (append-nil _);
  read = TellsOn-nothing calls;
}

-- no reading is at most one
pub reads_nothing : (call : Result Request NoCall) → ReadsFor call []
reads_nothing (Ok request) = omega arith
reads_nothing (Err reason) = refl

pub handles_without : (base : State) (lane connection nth : ℕ) (message : WholeMessage) (journal : List Entry) (before after : Option (List ClockCall)) (moments : List ℕ)
    → MayWantMemory (asked_by message) → ReadsFor (asked_by message) moments → TellsOn before after (map reading moments)
    → Handles base lane connection nth message no_memory journal journal before after
handles_without base lane connection nth message journal before after moments was_read once read = record {
  handled = record { message = message; answer = no_memory; call = None; moments = moments };
  message_is = refl;
  answer_is = refl;
  is_handled = record { was_read = was_read; not_entered = refl; read_once = once };
  made = sym (append-nil _);
  read = read;
}

-- an entry with this answer
abbrev answer_with : Entry → Outcome → Bool → Answered
answer_with e outcome over = record { entry = e; outcome = outcome; over = over }

-- what a step came to is what it comes to for the one-thread scheduler
same_answer : (base state : State) (journal new : List Entry) (e : Entry) (outcome : Outcome)
    → state ≡ replay base journal → new ≡ journal ++ e ∷ [] → outcome ≡ (step state e.now.0 e.request).1
    → answer_to base journal e ≡ answer_with e outcome (is_over new)
same_answer base state journal new e outcome state_is new_is outcome_is = rw (new_is, outcome_is, state_is) refl

pub handles_stepped : (base state : State) (lane connection nth : ℕ) (message : WholeMessage) (journal new : List Entry) (before after : Option (List ClockCall))
    (entry : Entry) (request : Request) (now : ℕ) (outcome : Outcome) (mark : Bool)
    → state ≡ replay base journal
    → asked_by message ≡ Ok request
    → entry ≡ entry_of lane connection nth message request now
    → new ≡ journal ++ entry ∷ []
    → outcome ≡ (step state entry.now.0 entry.request).1
    → mark ≡ is_over new
    → TellsOn before after (reading now ∷ [])
    → Handles base lane connection nth message (stepped outcome mark) journal new before after
handles_stepped base state lane connection nth message journal new before after entry request now outcome mark state_is is_call entry_is new_is outcome_is mark_is read =
    let the_call : Answered = record { entry = entry_of lane connection nth message request now; outcome = outcome; over = is_over new } in
    let own : entry.pass ≡ lane = rw entry_is refl in
    record {
      handled = record { message = message; answer = stepped outcome mark; call = Some the_call; moments = now ∷ [] };
      message_is = refl;
      answer_is = refl;
      is_handled = record {
        now = now;
        request = request;
        over = is_over new;
        is_call = is_call;
        entered = refl;
        read_once = refl;
        marked = λ over. mark_is ∙ over;
        only_over = λ marked. sym mark_is ∙ marked;
      };
      made = ap (λ (j : List Entry). made_by lane (answered base j)) new_is ∙ made-push base lane journal entry own
          ∙ ap (λ (a : Answered). made_by lane (answered base journal) ++ a ∷ [])
          (same_answer base state journal new entry outcome state_is new_is outcome_is ∙ ap (λ (e : Entry). answer_with e outcome (is_over new)) entry_is);
      read = read;
    }
