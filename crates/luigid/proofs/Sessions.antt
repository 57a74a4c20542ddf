-- A connection that is being served, and how it ends.
use Rattle.std.proofs.Common.{◌≡◌, ℕ, ◌+◌, Bool, true, false, ◌||◌, List, [], ◌∷◌, ◌++◌, length, All, refl, sym, ◌∙◌, ap, subst, arith, Option, Some, inl, inr}
use Rattle.std.proofs.lemmas.Grind.{common_steps}
use Rattle.std.proofs.lemmas.List.{append-nil}
use Rattle.std.proofs.lemmas.List.Elements.{All-nil, All-push}
use Rattle.std.specs.Prelude.{◌⊎◌, Result, Ok, Err, IsErr, is_err}
use Rattle.std.specs.List.{concat}
use Rattle.lg_http.specs.declared.message.Next.{Next}
use Rattle.lg_http.specs.Fields.{closes}
use Rattle.lg_http.specs.Messages.{WholeMessage, message_bytes, IsMessage, IsBad}
use Rattle.lg_io.specs.Cause.{HasCause}
use Rattle.lg_io.specs.Clock.{ClockCall}
use Rattle.lg_io.specs.Link.{LinkTold, fresh_link, EndedLink, ended_with, link_faults}
use Rattle.lg_io.specs.Sink.{WritesAll}
use Rattle.lg_io.specs.Source.{Received, nothing_received}
use Rattle.lg_desk.specs.declared.journal.Entry.{Entry}
use Rattle.lg_calls.specs.declared.state.State.{State}
use Rattle.luigid.specs.Handling.{Handles}
use Rattle.luigid.specs.Hearing.{ends_input, HearsOn}
use Rattle.lg_desk.specs.Journal.{GoesOnBy}
use Rattle.luigid.specs.Serving.{Serves}
use Rattle.luigid.specs.Session.{Handled, LinkEnd, Session, closed, unwritten, without_memory, bad, is_at_end, ends_connection, GoesOn, EndsLast, HasEnd, IsWhole, IsCutShort}
use Rattle.luigid.specs.Transcript.{Answer, is_last, response_of, error_response}
use Rattle.luigid.proofs.Hearings.{hears_some}
use Rattle.luigid.proofs.Responses.{spoken, spoken-push, Written, whole_of, cut_of, wrote}
use Rattle.luigid.proofs.Servings.{IsHeard, heard_nothing, heard_rest, heard_more}

-- A connection goes on: so many messages were handled, their responses were written, and nothing failed.
pub record IsServing (base : State) (lane connection : ℕ) (old new : List Entry) (count : ℕ) (left : List ℕ) (before now : Option (List ClockCall)) (link : LinkTold) : Type 0 where
  pub handled : List Handled
  pub received : Received
  pub told : link.received ≡ Some received
  pub heard : IsHeard base lane connection old new handled left received.bytes before now
  pub counted : length handled ≡ count
  pub not_ended : received.ended ≡ false
  pub took : link.taken ≡ Some (concat (spoken handled))
  pub read_fine : link.read_faults ≡ 0
  pub write_fine : link.write_faults ≡ 0
  pub go_on : All GoesOn handled

-- a fresh link is served from its first byte
pub serving_fresh : (base : State) (lane connection : ℕ) (journal : List Entry) (left : List ℕ) (calls : Option (List ClockCall)) (link : LinkTold)
    → link ≡ fresh_link → left ≡ [] → IsServing base lane connection journal journal 0 left calls calls link
serving_fresh base lane connection journal left calls link fresh empty = record {
  handled = [];
  received = nothing_received;
  told = rw fresh refl;
  heard = subst (λ l. IsHeard base lane connection journal journal [] l [] calls calls) (sym empty) (heard_nothing base lane connection journal calls);
  counted = refl;
  not_ended = refl;
  took = rw fresh refl;
  read_fine = rw fresh refl;
  write_fine = rw fresh refl;
  go_on = All-nil GoesOn;
}

-- a session of what was heard and told
abbrev pub session_of : Received → List ℕ → ℕ → List Handled → List ℕ → LinkEnd → Session
session_of received written faults handled rest end =
    record { link = ended_with received written faults; handled = handled; rest = rest; end = end }

-- a connection that ended with a cause was served
serves : (base : State) (lane connection : ℕ) (old new : List Entry) (handled : List Handled) (rest written : List ℕ) (before now : Option (List ClockCall)) (received : Received) (link : LinkTold) (end : LinkEnd)
    → IsHeard base lane connection old new handled rest received.bytes before now
    → link.received ≡ Some received → link.taken ≡ Some written → received.ended ≡ is_at_end end
    → HasEnd end (session_of received written (link_faults link) handled rest end)
    → Serves base lane connection old new before now link
serves base lane connection old new handled rest written before now received link end heard told took ended has_end = record {
  session = session_of received written (link_faults link) handled rest end;
  link_is = rw (told, took) refl;
  served = record {
    messages = heard.messages;
    received = heard.received;
    answered = heard.each;
    ended = ended;
    has_end = has_end;
  };
  made = heard.made;
  read = heard.read;
}

-- where nothing more was written, all responses were
pub all_written : (handled : List Handled) (received : Received) (faults : ℕ) → faults ≡ 0
    → IsWhole (spoken handled ++ []) (ended_with received (concat (spoken handled)) faults)
all_written handled received faults none = record { written = ap concat (sym (append-nil (spoken handled))); fine = none }

-- the connection ended where nothing more was written
pub ends : (base : State) (lane connection : ℕ) (old new : List Entry) (count : ℕ) (left got : List ℕ) (before now : Option (List ClockCall)) (link link' : LinkTold) (answer : Next) (end : LinkEnd)
    → (s : IsServing base lane connection old new count left before now link) → HearsOn link.received link'.received answer got
    → link'.taken ≡ link.taken → ends_input answer ≡ is_at_end end
    → ((r : Received) → link'.received ≡ Some r → HasEnd end (session_of r (concat (spoken s.handled)) (link_faults link') s.handled (left ++ got) end))
    → Serves base lane connection old new before now link'
ends base lane connection old new count left got before now link link' answer end s hears taken ended has_end =
    let more = hears_some s.received link.received link'.received answer got s.told hears in
    serves base lane connection old new s.handled (left ++ got) (concat (spoken s.handled)) before now more.0 link' end
    (subst (λ bytes. IsHeard base lane connection old new s.handled (left ++ got) bytes before now) (sym more.2.bytes)
    (heard_rest base lane connection old new s.handled left got s.received.bytes before now s.heard))
    more.1 (taken ∙ s.took) (more.2.ended ∙ ap (λ was. was || ends_input answer) s.not_ended ∙ ended) (has_end more.0 more.1)

-- no reader could be made for a fresh link
pub ends_unheard : (base : State) (lane connection : ℕ) (journal : List Entry) (calls : Option (List ClockCall)) (link : LinkTold)
    → link ≡ fresh_link → Serves base lane connection journal journal calls calls link
ends_unheard base lane connection journal calls link fresh =
    let none : link_faults link ≡ 0 = rw fresh refl in
    serves base lane connection journal journal [] [] [] calls calls nothing_received link without_memory (heard_nothing base lane connection journal calls)
    (rw fresh refl) (rw fresh refl) refl
    (All-nil GoesOn, inr (record { nothing_handled = refl; nothing_received = refl; never_quiet = refl }), all_written [] nothing_received (link_faults link) none)

-- the connection ended where no message stood
pub ends_bad : {T E : Type 0} (base : State) (lane connection : ℕ) (old new : List Entry) (count : ℕ) (left got : List ℕ) (before now : Option (List ClockCall)) (link heard link' : LinkTold) (answer : Next) (status : ℕ) (result : Result T E)
    → (s : IsServing base lane connection old new count left before now link) → HearsOn link.received heard.received answer got
    → heard.taken ≡ link.taken → heard.write_faults ≡ link.write_faults → heard.read_faults ≡ 0
    → link'.received ≡ heard.received → link'.read_faults ≡ heard.read_faults
    → WritesAll heard.taken link'.taken (error_response status) result → HasCause heard.write_faults link'.write_faults (IsErr result)
    → ends_input answer ≡ false → IsBad status (left ++ got)
    → Serves base lane connection old new before now link'
ends_bad base lane connection old new count left got before now link heard link' answer status result s hears taken wrote_none fine received read writes cause ended is_bad =
    let more = hears_some s.received link.received heard.received answer got s.told hears in
    let w = wrote heard.taken link'.taken (spoken s.handled) (error_response status) result more.0.bytes more.0.ended link'.read_faults heard.write_faults link'.write_faults more.0.quiets
    (taken ∙ s.took) writes cause (wrote_none ∙ s.write_fine) (read ∙ fine) in
    serves base lane connection old new s.handled (left ++ got) w.written before now more.0 link' (bad status)
    (subst (λ bytes. IsHeard base lane connection old new s.handled (left ++ got) bytes before now) (sym more.2.bytes)
    (heard_rest base lane connection old new s.handled left got s.received.bytes before now s.heard))
    (received ∙ more.1) w.took (more.2.ended ∙ ap (λ was. was || ends_input answer) s.not_ended ∙ ended)
    (s.go_on, is_bad, either result _ _ w.outcome) where
      either : {T E : Type 0} (result : Result T E) (responses : List (List ℕ)) (link : EndedLink) → Written result responses link → IsWhole responses link ⊎ IsCutShort responses link
      either (Ok x) responses link written = inl written
      either (Err e) responses link written = inr written

-- A message was handled and its response was written, or a front of it: what the connection did, and what its link tells.
pub record IsSpoken {T E : Type 0} (base : State) (lane connection : ℕ) (old new : List Entry) (count : ℕ) (left : List ℕ) (before now : Option (List ClockCall)) (answer : Answer) (ends : Bool) (result : Result T E) (link : LinkTold) : Type 0 where
  pub handled : List Handled
  pub last : Handled
  pub answer_is : last.answer ≡ answer
  pub ends_is : ends_connection last ≡ ends
  pub received : Received
  pub told : link.received ≡ Some received
  pub heard : IsHeard base lane connection old new (handled ++ last ∷ []) left received.bytes before now
  pub counted : length handled ≡ count
  pub not_ended : received.ended ≡ false
  pub written : List ℕ
  pub took : link.taken ≡ Some written
  pub outcome : Written result (spoken handled ++ response_of answer ends ∷ []) (ended_with received written (link_faults link))
  pub go_on : All GoesOn handled

-- a connection that went on handles one more message
pub speaks : {T E : Type 0} (base : State) (lane connection : ℕ) (old middle new : List Entry) (count : ℕ) (left got left' : List ℕ) (before now after : Option (List ClockCall)) (link heard link' : LinkTold) (next : Next) (message : WholeMessage) (answer : Answer) (ends : Bool) (result : Result T E)
    → (s : IsServing base lane connection old middle count left before now link) → HearsOn link.received heard.received next got
    → heard.taken ≡ link.taken → heard.write_faults ≡ link.write_faults → heard.read_faults ≡ 0
    → link'.received ≡ heard.received → link'.read_faults ≡ heard.read_faults
    → WritesAll heard.taken link'.taken (response_of answer ends) result → HasCause heard.write_faults link'.write_faults (IsErr result)
    → ends_input next ≡ false → IsMessage message → ends ≡ is_last (closes message.head) answer
    → left ++ got ≡ message_bytes message ++ left'
    → Handles base lane connection count message answer middle new now after → GoesOnBy lane middle new
    → IsSpoken base lane connection old new count left' before after answer ends result link'
speaks base lane connection old middle new count left got left' before now after link heard link' next message answer ends result s hears taken wrote_none fine received read writes cause goes_on is_message ends_is parts handles goes =
    let more = hears_some s.received link.received heard.received next got s.told hears in
    let w = wrote heard.taken link'.taken (spoken s.handled) (response_of answer ends) result more.0.bytes more.0.ended link'.read_faults heard.write_faults link'.write_faults more.0.quiets
    (taken ∙ s.took) writes cause (wrote_none ∙ s.write_fine) (read ∙ fine) in
    let handles' : Handles base lane connection (length s.handled) message answer middle new now after = subst (λ n. Handles base lane connection n message answer middle new now after) (sym s.counted) handles in
    record {
      handled = s.handled;
      last = handles'.handled;
      answer_is = handles'.answer_is;
      ends_is = ap (λ (m : WholeMessage). is_last (closes m.head) handles'.handled.answer) handles'.message_is
          ∙ ap (is_last (closes message.head)) handles'.answer_is ∙ sym ends_is;
      received = more.0;
      told = received ∙ more.1;
      heard = subst (λ bytes. IsHeard base lane connection old new (s.handled ++ handles'.handled ∷ []) left' bytes before after) (sym more.2.bytes)
          (heard_more base lane connection old middle new s.handled left got left' s.received.bytes before now after message answer s.heard handles' goes is_message parts);
      counted = s.counted;
      not_ended = more.2.ended ∙ ap (λ was. was || ends_input next) s.not_ended ∙ goes_on;
      written = w.written;
      took = w.took;
      outcome = w.outcome;
      go_on = s.go_on;
    }

-- the responses with the last one
with_last : (handled : List Handled) (last : Handled) (answer : Answer) (ends : Bool) → last.answer ≡ answer → ends_connection last ≡ ends
    → spoken (handled ++ last ∷ []) ≡ spoken handled ++ response_of answer ends ∷ []
with_last handled last answer ends is ends_is =
    spoken-push handled last ∙ ap (λ (a : Answer). spoken handled ++ response_of a (ends_connection last) ∷ []) is
    ∙ ap (λ (b : Bool). spoken handled ++ response_of answer b ∷ []) ends_is

-- and goes on, where the response was written and wasn't the last
pub goes_on_after : {T E : Type 0} (base : State) (lane connection : ℕ) (old new : List Entry) (count : ℕ) (left : List ℕ) (before now : Option (List ClockCall)) (answer : Answer) (ends : Bool) (result : Result T E) (link : LinkTold)
    → IsSpoken base lane connection old new count left before now answer ends result link → is_err result ≡ false → ends ≡ false
    → IsServing base lane connection old new (count + 1) left before now link
goes_on_after base lane connection old new count left before now answer ends result link s written stays =
    let whole = whole_of result _ _ written s.outcome in
    record {
      handled = s.handled ++ s.last ∷ [];
      received = s.received;
      told = s.told;
      heard = s.heard;
      counted = grind (arith, common_steps, s.counted);
      not_ended = s.not_ended;
      took = s.took ∙ ap Some (whole.written ∙ ap concat (sym (with_last s.handled s.last answer ends s.answer_is s.ends_is)));
      read_fine = omega (arith, whole.fine);
      write_fine = omega (arith, whole.fine);
      go_on = All-push GoesOn s.handled s.last s.go_on (s.ends_is ∙ stays);
    }

-- or ends, where it was the last
pub ends_last : {T E : Type 0} (base : State) (lane connection : ℕ) (old new : List Entry) (count : ℕ) (left : List ℕ) (before now : Option (List ClockCall)) (answer : Answer) (ends : Bool) (result : Result T E) (link : LinkTold)
    → IsSpoken base lane connection old new count left before now answer ends result link → is_err result ≡ false → ends ≡ true
    → Serves base lane connection old new before now link
ends_last base lane connection old new count left before now answer ends result link s written last =
    let handled = s.handled ++ s.last ∷ [] in
    let are : spoken s.handled ++ response_of answer ends ∷ [] ≡ spoken handled ++ [] = sym (with_last s.handled s.last answer ends s.answer_is s.ends_is) ∙ sym (append-nil (spoken handled)) in
    serves base lane connection old new handled left s.written before now s.received link closed s.heard s.told s.took s.not_ended
    (record { front = s.handled; last = s.last; whole = refl; before = s.go_on; closes = s.ends_is ∙ last }, subst (λ rs. IsWhole rs (ended_with s.received s.written (link_faults link))) are (whole_of result _ _ written s.outcome))

-- or its write failed
pub ends_unwritten : {T E : Type 0} (base : State) (lane connection : ℕ) (old new : List Entry) (count : ℕ) (left : List ℕ) (before now : Option (List ClockCall)) (answer : Answer) (ends : Bool) (result : Result T E) (link : LinkTold)
    → IsSpoken base lane connection old new count left before now answer ends result link → is_err result ≡ true
    → Serves base lane connection old new before now link
ends_unwritten base lane connection old new count left before now answer ends result link s failed =
    let handled = s.handled ++ s.last ∷ [] in
    let are : spoken s.handled ++ response_of answer ends ∷ [] ≡ spoken handled ++ [] = sym (with_last s.handled s.last answer ends s.answer_is s.ends_is) ∙ sym (append-nil (spoken handled)) in
    serves base lane connection old new handled left s.written before now s.received link unwritten s.heard s.told s.took s.not_ended
    (by_last ends refl, subst (λ rs. IsCutShort rs (ended_with s.received s.written (link_faults link))) are (cut_of result _ _ failed s.outcome)) where
      by_last : (b : Bool) → ends ≡ b → All GoesOn (s.handled ++ s.last ∷ []) ⊎ EndsLast (s.handled ++ s.last ∷ [])
      by_last true last = inr (record { front = s.handled; last = s.last; whole = refl; before = s.go_on; closes = s.ends_is ∙ last })
      by_last false stays = inl (All-push GoesOn s.handled s.last s.go_on (s.ends_is ∙ stays))
