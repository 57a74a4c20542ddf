-- What a reader keeps of a message that is not whole yet. This project's own.
use Rattle.std.specs.Prelude.{◌≡◌, ℕ, ◌+◌, ◌-◌, ◌<◌, ◌≤◌, true, List, [], ◌++◌, length, Option, Some, None, option_map}
use Rattle.httparse.specs.Grammar.{RequestHead, IsRequestHead, print_request}
use Rattle.lg_http.specs.Fields.{is_sized, body_length, closes}
use Rattle.lg_http.specs.Heads.{max_head, IsAccepted}
use Rattle.lg_http.specs.Arrival.{Arrival}
use Rattle.lg_io.specs.Source.{Received}
use Rattle.lg_http.specs.Answers.{max_quiets, after_bytes, Counts, Hears, Reads, Shows}
use Rattle.lg_http.specs.Messages.{WholeMessage, message_bytes, IsMessage, IsBad, IsUndecided, WantsMemory}
use Rattle.lg_http.specs.declared.incoming.Incoming.{Incoming}
use Rattle.lg_http.specs.declared.message.Next.{Next}
use Rattle.lg_http.specs.declared.message.Next.TheVariants as Answer

-- the window holds the head of the message that arrives, and nothing else
pub record IsArriving (window : List ℕ) (arrival : Arrival) (head : RequestHead) : Type 0 where
  pub grammar : IsRequestHead head
  pub accepted : IsAccepted head
  pub whole : window ≡ print_request head
  pub short : length window ≤ max_head
  pub size_is : arrival.size ≡ body_length head
  pub sized_is : arrival.sized ≡ is_sized head
  pub last_is : arrival.last ≡ closes head
  pub within : length arrival.read ≤ arrival.size
  pub verb_is : arrival.verb ≡ head.method
  pub target_is : arrival.target ≡ head.target

-- what is kept is of one message
abbrev pub IsKept : List ℕ → Option Arrival → Type 0
IsKept window None = Unit {0}
IsKept window (Some arrival) = (head : RequestHead) × IsArriving window arrival head

-- the bytes that came and were not given out
abbrev pub kept_bytes : List ℕ → Option Arrival → List ℕ
kept_bytes window None = window
kept_bytes window (Some arrival) = window ++ arrival.read

-- more bytes can be read
abbrev pub CanRead : List ℕ → Option Arrival → Type 0
CanRead window None = length window < max_head
CanRead window (Some arrival) = length arrival.read < arrival.size

-- how many bytes can be read at most before an answer comes
abbrev pub kept_room : List ℕ → Option Arrival → ℕ
kept_room window None = 1048577 + (max_head - length window)
kept_room window (Some arrival) = arrival.size - length arrival.read

-- the same of what a reader keeps
abbrev pub IsSound : Incoming → Type 0
IsSound incoming = IsKept incoming.window incoming.arriving

-- the bytes that it did not give out
abbrev pub bytes_of : Incoming → List ℕ
bytes_of incoming = kept_bytes incoming.window incoming.arriving

-- it can read more
abbrev pub HasRoom : Incoming → Type 0
HasRoom incoming = CanRead incoming.window incoming.arriving

-- how much more
abbrev pub room_of : Incoming → ℕ
room_of incoming = kept_room incoming.window incoming.arriving

-- it is sound, it waits only where what it keeps is undecided, and its source isn't idle yet
pub record IsReady (incoming : Incoming) : Type 0 where
  pub sound : IsSound incoming
  pub waiting : incoming.is_waiting ≡ true → IsUndecided (bytes_of incoming) × HasRoom incoming
  pub quiets : incoming.quiets < max_quiets

-- What is found in the bytes at hand: an answer, or that more bytes are wanted.
abbrev pub Finds : Incoming → Option Next → Incoming → Type 0
Finds old None new =
    (bytes_of new ≡ bytes_of old) × IsUndecided (bytes_of old) × HasRoom new × (room_of new ≤ room_of old)
Finds old (Some (Answer.Message message)) new =
    (whole : WholeMessage) × IsMessage whole × Shows message whole × (bytes_of old ≡ message_bytes whole ++ bytes_of new)
Finds old (Some Answer.End) new = ⊥
Finds old (Some (Answer.Bad status)) new = (bytes_of new ≡ bytes_of old) × IsBad status (bytes_of old)
Finds old (Some Answer.Torn) new = ⊥
Finds old (Some Answer.Quiet) new = ⊥
Finds old (Some Answer.Idle) new = ⊥
Finds old (Some Answer.Failed) new = ⊥
Finds old (Some Answer.NoMemory) new = (bytes_of new ≡ bytes_of old) × WantsMemory (bytes_of old)

-- What reading more comes to: an answer where nothing came, or more bytes.
abbrev pub ReadsOn : Incoming → Option Next → Incoming → Option Received → Option Received → Type 0
ReadsOn old None new told now =
    (got : List ℕ) × (0 < length got) × (now ≡ option_map (after_bytes got) told) × (bytes_of new ≡ bytes_of old ++ got)
    × (room_of new + length got ≡ room_of old) × (new.quiets ≡ 0)
ReadsOn old (Some answer) new told now =
    Hears told answer [] now × Reads (bytes_of old) answer (bytes_of new) × Counts old.quiets answer new.quiets
