-- What a source gave. This project's own, after `std::io::Read`.
use Rattle.std.specs.Prelude.{ℕ, ◌+◌, ◌<◌, ◌≤◌, List, [], ◌++◌, take, Bool, true, false}
use Rattle.lg_io.specs.declared.source.ReadStep.{ReadStep}
use Rattle.lg_io.specs.declared.source.ReadStep.TheVariants.{Bytes, End, Quiet, Failed}

-- the bytes that a source gave, whether it answered its end, and how often it was quiet since its last byte
pub record Received : Type 0 where
  pub bytes : List ℕ
  pub ended : Bool
  pub quiets : ℕ

-- a source that wasn't read yet
abbrev pub nothing_received : Received
nothing_received = record { bytes = []; ended = false; quiets = 0 }

-- the bytes that an answer puts at the front of the buffer
abbrev pub given : ReadStep → List ℕ → List ℕ
given (Bytes count) buffer = take count buffer
given End buffer = []
given Quiet buffer = []
given Failed buffer = []

-- whether an answer is the end
abbrev pub is_end : ReadStep → Bool
is_end (Bytes count) = false
is_end End = true
is_end Quiet = false
is_end Failed = false

-- what a source gave, after one more answer
abbrev pub received_after : ReadStep → List ℕ → Received → Received
received_after (Bytes count) buffer r =
    record { bytes = r.bytes ++ take count buffer; ended = r.ended; quiets = 0 }
received_after End buffer r = record r { ended = true }
received_after Quiet buffer r = record r { quiets = r.quiets + 1 }
received_after Failed buffer r = r

-- a count of bytes fits the buffer, and is above 0 where the buffer isn't empty
abbrev pub FitsBuffer : ReadStep → ℕ → Type 0
FitsBuffer (Bytes count) room = (count ≤ room) × (0 < room → 0 < count)
FitsBuffer End room = Unit {0}
FitsBuffer Quiet room = Unit {0}
FitsBuffer Failed room = Unit {0}
