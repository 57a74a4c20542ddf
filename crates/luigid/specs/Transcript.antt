-- What a connection is answered: one response to each message, in order (RFC 9112). This project's own.
use Rattle.std.specs.Prelude.{ℕ, Bool, true, false, ◌||◌, ◌==◌, List, ◌++◌, codes, decimal, if◌then◌else◌}
use Rattle.lg_json.specs.Tree.{str}
use Rattle.lg_calls.specs.Outcome.{Outcome, replied, full, not_built}
use Rattle.lg_http.specs.Response.{response_bytes}
use Rattle.luigid.specs.declared.refusal.NoCall.{NoCall}
use Rattle.luigid.specs.Refusal.{no_call_status, no_call_text}

-- The answer to a message: what the step of its call came to, with a mark that says that the life was over behind it; why
-- it makes no call; or that memory ran out before its step.
pub data Answer : Type 0 where
  stepped : Outcome → Bool → Answer
  not_called : NoCall → Answer
  no_memory : Answer

-- the mark of an answer: the life was over behind it
abbrev pub is_marked : Answer → Bool
is_marked (stepped outcome mark) = mark
is_marked (not_called reason) = false
is_marked no_memory = false

-- a response is the connection's last where its message closes the connection, or the life was over behind it
abbrev pub is_last : Bool → Answer → Bool
is_last closes answer = closes || is_marked answer

-- the response to a call: its reply, how many tasks the scheduler is full with, or that its method isn't built (no call of
-- such a method is ever made)
abbrev pub outcome_response : Outcome → Bool → List ℕ
outcome_response (replied tree) last = response_bytes 200 tree last
outcome_response (full tasks) last = response_bytes 507 (str (codes "full " ++ decimal tasks)) last
outcome_response not_built last = response_bytes 501 (str (codes "not built")) last

-- the bytes of a response
abbrev pub response_of : Answer → Bool → List ℕ
response_of (stepped outcome mark) last = outcome_response outcome last
response_of (not_called reason) last = response_bytes (no_call_status reason) (str (no_call_text reason)) last
response_of no_memory last = response_bytes 503 (str (codes "no memory")) last

-- what is said of bytes that are no message: their head is too long, their body, or they are bad
abbrev pub error_text : ℕ → List ℕ
error_text status =
    if status == 431 then codes "head too long" else (if status == 413 then codes "body too long" else codes "bad message")

-- the response to bytes that are no message, with the status that they call for
abbrev pub error_response : ℕ → List ℕ
error_response status = response_bytes status (str (error_text status)) true
