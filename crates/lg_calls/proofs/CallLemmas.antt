-- The readings of the methods, made into requests.
use Rattle.std.proofs.Common.{◌≡◌, ℕ, List, Result, Ok, Err, refl}
use Rattle.std.specs.Result.{MatchResult, IsErrAnd}
use Rattle.std.proofs.lemmas.Result.{err_from_is_err_and}
use Rattle.serde_json.specs.Data.{Members}
use Rattle.lg_calls.specs.Call.{asks, reading_of, fields_in, request_in, Answers}
use Rattle.lg_calls.specs.Reading.{Reading, Reads, left_in}
use Rattle.lg_calls.specs.declared.arguments.Arguments.{Arguments}
use Rattle.lg_calls.specs.declared.method.Method.{Method}
use Rattle.lg_calls.specs.declared.refusal.PayloadFault.{PayloadFault}
use Rattle.lg_calls.specs.declared.refusal.PayloadFault.TheVariants.{Refused, NoMemory}
use Rattle.lg_calls.specs.declared.request.Request.{Request}
use Rattle.lg_calls.proofs.ReadingLemmas.{then_reads, refused_reads, done_reads}

-- what was read makes the request
pub asks_reads : {A : Type 0} (request : A → Request) (arguments : Reading A) (before after : Arguments) (answer : Result A PayloadFault) (result : Result Request PayloadFault)
    → Reads arguments before after answer → MatchResult answer (λ ask. result ≡ Ok (request ask)) (λ fault. result ≡ Err fault)
    → Reads (asks request arguments) before after result
asks_reads request arguments before after (Ok ask) result read is = rw is (then_reads _ _ _ _ _ _ _ read (done_reads _ _ _ refl))
asks_reads request arguments before after (Err fault) result read is = rw is (refused_reads _ _ _ _ _ _ read)

-- the answer is the request that is due
pub answers_request : (method : Method) (payload : List ℕ) (before after : Arguments) (result : Result Request PayloadFault)
    → fields_in payload ≡ Ok (left_in before) → Reads (reading_of method) before after result → Answers result (request_in method payload)
unfolding Reads request_in
answers_request method payload before after (Ok request) fields read = rw (fields, read) refl
answers_request method payload before after (Err (Refused refusal)) fields read = rw (fields, read) refl
answers_request method payload before after (Err NoMemory) fields read = tt

-- where the payload has no fields it makes no request
no_fields : (method : Method) (payload : List ℕ) (fault : PayloadFault) → Answers {A = Members} (Err fault) (fields_in payload) → Answers (Err fault) (request_in method payload)
unfolding request_in
no_fields method payload (Refused refusal) due = rw due refl
no_fields method payload NoMemory due = tt

-- the exit of the `?` behind which the arguments are read
pub stopped_request : (method : Method) (payload : List ℕ) (fault : PayloadFault) (result : Result Request PayloadFault)
    → Answers {A = Members} (Err fault) (fields_in payload) → IsErrAnd result (λ told. told ≡ fault) → Answers result (request_in method payload)
stopped_request method payload fault result due told =
    let p = err_from_is_err_and result told in
    rw (p.1, p.2) (no_fields method payload fault due)
