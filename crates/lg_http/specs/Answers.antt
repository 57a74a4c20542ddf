-- What the answers of a reader say of the bytes that it received. This project's own.
use Rattle.std.specs.Prelude.{◌≡◌, ◌≢◌, ℕ, ◌+◌, ◌<◌, true, List, [], ◌∷◌, ◌++◌, Option, Some, None, option_map, if◌then◌else◌}
use Rattle.lg_io.specs.Source.{Received}
use Rattle.lg_http.specs.declared.reader_end.ReaderEnd.{ReaderEnd}
use Rattle.lg_http.specs.declared.reader_end.ReaderEnd.TheVariants as Over
use Rattle.lg_http.specs.declared.message.Message.{Message}
use Rattle.lg_http.specs.declared.message.Next.{Next}
use Rattle.lg_http.specs.declared.message.Next.TheVariants as Answer
use Rattle.lg_http.specs.Fields.{is_sized, closes}
use Rattle.lg_http.specs.Messages.{WholeMessage, message_bytes, IsMessage, IsBad, IsUndecided, WantsMemory}

-- what a source told, behind the bytes of one call: a byte ends a row of quiet answers
abbrev pub after_bytes : List ℕ → Received → Received
after_bytes [] r = r
after_bytes (b ∷ bytes) r = record { bytes = r.bytes ++ b ∷ bytes; ended = r.ended; quiets = 0 }

-- and behind the source's own last answer: that it is at its end, or that it has no bytes now
abbrev pub after_answer : Next → Received → Received
after_answer (Answer.Message message) r = r
after_answer Answer.End r = record r { ended = true }
after_answer (Answer.Bad status) r = r
after_answer Answer.Torn r = record r { ended = true }
after_answer Answer.Quiet r = record r { quiets = r.quiets + 1 }
after_answer Answer.Idle r = record r { quiets = r.quiets + 1 }
after_answer Answer.Failed r = r
after_answer Answer.NoMemory r = r

-- what a source tells after a call that gave this answer and in which these bytes came
abbrev pub Hears : Option Received → Next → List ℕ → Option Received → Type 0
Hears old answer got new = new ≡ option_map (λ r. after_answer answer (after_bytes got r)) old

-- how often a source may be quiet in a row
abbrev pub max_quiets : ℕ
max_quiets = 600

-- how often a source was quiet since its last byte, behind these bytes
abbrev pub quiets_after : List ℕ → ℕ → ℕ
quiets_after [] quiets = quiets
quiets_after (b ∷ bytes) quiets = 0

-- What a reader counts with an answer, where the source was quiet so often before it: it is idle at the 600th time.
abbrev pub Counts : ℕ → Next → ℕ → Type 0
Counts quiets (Answer.Message message) new = new ≡ quiets
Counts quiets Answer.End new = new ≡ quiets
Counts quiets (Answer.Bad status) new = new ≡ quiets
Counts quiets Answer.Torn new = new ≡ quiets
Counts quiets Answer.Quiet new = (new ≡ quiets + 1) × (new < max_quiets)
Counts quiets Answer.Idle new = quiets + 1 ≡ max_quiets
Counts quiets Answer.Failed new = new ≡ quiets
Counts quiets Answer.NoMemory new = new ≡ quiets

-- The message has these parts, tells its length where a field does, and is the last where it closes the connection.
pub record Shows (message : Message) (whole : WholeMessage) : Type 0 where
  pub verb : message.verb ≡ whole.head.method
  pub target : message.target ≡ whole.head.target
  pub body : message.body.items ≡ whole.body
  pub sized : message.sized ≡ is_sized whole.head
  pub last : message.last ≡ closes whole.head

-- why no answer but this one comes any more
abbrev pub ending_of : Next → Option ReaderEnd
ending_of (Answer.Message message) = if message.last then Some Over.Closed else None
ending_of Answer.End = Some Over.Ended
ending_of (Answer.Bad status) = Some (Over.Bad status)
ending_of Answer.Torn = Some Over.Torn
ending_of Answer.Quiet = None
ending_of Answer.Idle = Some Over.Idle
ending_of Answer.Failed = Some Over.Failed
ending_of Answer.NoMemory = Some Over.NoMemory

-- What an answer says of the bytes that were seen and not given out before, and of those that are left.
abbrev pub Reads : List ℕ → Next → List ℕ → Type 0
Reads seen (Answer.Message message) left =
    (whole : WholeMessage) × IsMessage whole × Shows message whole × (seen ≡ message_bytes whole ++ left)
Reads seen Answer.End left = (seen ≡ []) × (left ≡ [])
Reads seen (Answer.Bad status) left = (left ≡ seen) × IsBad status seen
Reads seen Answer.Torn left = (left ≡ seen) × (seen ≢ []) × IsUndecided seen
Reads seen Answer.Quiet left = (left ≡ seen) × IsUndecided seen
Reads seen Answer.Idle left = (left ≡ seen) × IsUndecided seen
Reads seen Answer.Failed left = (left ≡ seen) × IsUndecided seen
Reads seen Answer.NoMemory left = (left ≡ seen) × WantsMemory seen
