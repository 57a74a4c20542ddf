-- The messages of a stream of bytes, and what stands behind them. This project's own, over RFC 9112.
use Rattle.std.specs.Prelude.{◌≡◌, ℕ, ◌<◌, ◌≤◌, ◌⊎◌, List, [], ◌∷◌, ◌++◌, length, All, MatchBool, Some}
use Rattle.std.specs.List.{flat_map}
use Rattle.httparse.specs.Grammar.{RequestHead, print_request, IsRequestHead, ReadsRequest, HasNoRequest}
use Rattle.lg_http.specs.Fields.{body_length, closes}
use Rattle.lg_http.specs.Heads.{max_head, refusal_of, IsAccepted, IsHopeless}

-- a message as it came: its head, and its body as it was sent
pub record WholeMessage : Type 0 where
  pub head : RequestHead
  pub body : List ℕ

-- the bytes of a message
abbrev pub message_bytes : WholeMessage → List ℕ
message_bytes message = print_request message.head ++ message.body

-- a whole message that is served
pub record IsMessage (message : WholeMessage) : Type 0 where
  pub grammar : IsRequestHead message.head
  pub short : length (print_request message.head) ≤ max_head
  pub accepted : IsAccepted message.head
  pub whole : length message.body ≡ body_length message.head

-- bytes begins with this head, within the bytes that are looked at for one, and goes on with rest
pub record BeginsWith (bytes : List ℕ) (head : RequestHead) (rest : List ℕ) : Type 0 where
  pub reads : ReadsRequest bytes head rest
  pub short : length (print_request head) ≤ max_head

-- a head is at the front that is served: the one place where a reader takes memory
abbrev pub WantsMemory : List ℕ → Type 0
WantsMemory bytes = (head : RequestHead) × (rest : List ℕ) × BeginsWith bytes head rest × IsAccepted head

-- a head is at the front that is refused with this status
abbrev pub HasRefusedHead : ℕ → List ℕ → Type 0
HasRefusedHead status bytes =
    (head : RequestHead) × (rest : List ℕ) × BeginsWith bytes head rest × (refusal_of head ≡ Some status)

-- a front can no longer become a head
abbrev pub HasHopelessFront : List ℕ → Type 0
HasHopelessFront bytes =
    (front : List ℕ) × (rest : List ℕ) × (bytes ≡ front ++ rest) × (length front ≤ max_head) × IsHopeless front

-- as many bytes are there as are looked at for a head, they hold no whole one, and yet one could still come
pub record IsOverlong (bytes : List ℕ) : Type 0 where
  pub full : max_head ≤ length bytes
  pub headless : (head : RequestHead) (rest : List ℕ) → ¬ (BeginsWith bytes head rest)
  pub hopeful : ¬ HasHopelessFront bytes

-- What stands at the front is no message, whatever follows, and is answered with this status.
abbrev pub IsBad : ℕ → List ℕ → Type 0
IsBad status bytes =
    HasRefusedHead status bytes ⊎ (HasHopelessFront bytes × (status ≡ 400)) ⊎ (IsOverlong bytes × (status ≡ 431))

-- the statuses of what is no message
abbrev pub IsRefusalStatus : ℕ → Type 0
IsRefusalStatus status = (status ≡ 400) ⊎ (status ≡ 413) ⊎ (status ≡ 431)

-- a head that is served is whole, and its body isn't
abbrev pub HasPartOfBody : List ℕ → Type 0
HasPartOfBody bytes =
    (head : RequestHead) × (rest : List ℕ) × BeginsWith bytes head rest × IsAccepted head × (length rest < body_length head)

-- no head is whole yet, and one may still come
pub record HasPartOfHead (bytes : List ℕ) : Type 0 where
  pub short : length bytes < max_head
  pub headless : HasNoRequest bytes
  pub hopeful : ¬ HasHopelessFront bytes

-- Nothing, or a message that is cut short.
abbrev pub IsUndecided : List ℕ → Type 0
IsUndecided bytes = HasPartOfBody bytes ⊎ HasPartOfHead bytes

-- what stands where no message does: nothing or one that is cut short, or what is none
abbrev pub IsRest : List ℕ → Type 0
IsRest rest = IsUndecided rest ⊎ ((status : ℕ) × IsBad status rest)

-- The stream is these messages, one behind the other, and then the rest.
pub record Splits (stream : List ℕ) (messages : List WholeMessage) (rest : List ℕ) : Type 0 where
  pub whole : stream ≡ flat_map message_bytes messages ++ rest
  pub each : All IsMessage messages

-- no message closes the connection but the last
abbrev pub OnlyLastCloses : List WholeMessage → Type 0
OnlyLastCloses [] = Unit {0}
OnlyLastCloses (message ∷ messages) = MatchBool (closes message.head) (messages ≡ []) (OnlyLastCloses messages)

-- these are all the messages: the last closes the connection, or behind it stands none
abbrev pub AreAll : List WholeMessage → List ℕ → Type 0
AreAll [] rest = IsRest rest
AreAll (message ∷ messages) rest = MatchBool (closes message.head) (messages ≡ []) (AreAll messages rest)
