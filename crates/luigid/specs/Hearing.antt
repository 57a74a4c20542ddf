-- What a link received while one message was waited for, however often it was quiet meanwhile. This project's own.
use Rattle.std.specs.Prelude.{◌≡◌, ℕ, Bool, true, false, ◌||◌, List, ◌++◌, Option, Some, None, IfSome}
use Rattle.lg_http.specs.Answers.{max_quiets}
use Rattle.lg_http.specs.declared.message.Next.{Next}
use Rattle.lg_http.specs.declared.message.Next.TheVariants as Answer
use Rattle.lg_io.specs.Source.{Received}

-- an answer that comes at the end of the input
abbrev pub ends_input : Next → Bool
ends_input (Answer.Message message) = false
ends_input Answer.End = true
ends_input (Answer.Bad status) = false
ends_input Answer.Torn = true
ends_input Answer.Quiet = false
ends_input Answer.Idle = false
ends_input Answer.Failed = false
ends_input Answer.NoMemory = false

-- these bytes came, and the source answered its end exactly where the answer says so
pub record Heard (old new : Received) (answer : Next) (got : List ℕ) : Type 0 where
  pub bytes : new.bytes ≡ old.bytes ++ got
  pub ended : new.ended ≡ old.ended || ends_input answer

-- the same of a link, which goes on telling or goes on not telling
abbrev pub HearsOn : Option Received → Option Received → Next → List ℕ → Type 0
HearsOn None new answer got = new ≡ None
HearsOn (Some old) None answer got = ⊥
HearsOn (Some old) (Some new) answer got = Heard old new answer got

-- a source that tells was quiet so often since its last byte
abbrev pub IsQuietFor : Option Received → ℕ → Type 0
IsQuietFor told quiets = IfSome told (λ r. r.quiets ≡ quiets)

-- how often the source was quiet in a row, behind an answer of a reader that counts this
abbrev pub quiets_behind : Next → ℕ → ℕ
quiets_behind (Answer.Message message) quiets = quiets
quiets_behind Answer.End quiets = quiets
quiets_behind (Answer.Bad status) quiets = quiets
quiets_behind Answer.Torn quiets = quiets
quiets_behind Answer.Quiet quiets = quiets
quiets_behind Answer.Idle quiets = max_quiets
quiets_behind Answer.Failed quiets = quiets
quiets_behind Answer.NoMemory quiets = quiets
