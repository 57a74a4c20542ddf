-- What objects over real things carry over from them. This project's own, after `std::io`.
use Rattle.std.specs.Prelude.{ℕ, ◌≤◌, ◌==◌, ◌&&◌, nat_lt, Bool, true, false, if◌then◌else◌, List, length, take, Option, Result, Ok, Err}
use Rattle.std.specs.Io.KnownBytes.{Appends}
use Rattle.std.specs.IoError.{error_kind}
use Rattle.std.specs.declared.alloc.Global.{Global}
use Rattle.std.specs.declared.io.Error.{Error}
use Rattle.std.specs.declared.io.ErrorKind.{ErrorKind}
use Rattle.std.specs.declared.io.ErrorKind.TheVariants.{NotFound, OutOfMemory, WouldBlock, TimedOut, Interrupted}
use Rattle.std.specs.declared.vec.Vec.{Vec}
use Rattle.lg_io.specs.declared.files.FileRead.{FileRead}
use Rattle.lg_io.specs.declared.files.FileRead.TheVariants as file
use Rattle.lg_io.specs.declared.source.ReadStep.{ReadStep}
use Rattle.lg_io.specs.declared.source.ReadStep.TheVariants.{Bytes, End, Quiet, Failed}
use Rattle.lg_io.specs.declared.sink.WriteStep.{WriteStep}
use Rattle.lg_io.specs.declared.sink.WriteStep.TheVariants as write

-- an error that says that there is nothing now
abbrev pub is_passing : ErrorKind → Bool
is_passing WouldBlock = true
is_passing TimedOut = true
is_passing Interrupted = true
is_passing kind = false

-- the answer that stands for a reader's, into a buffer of so many bytes
abbrev pub step_of : ℕ → Result ℕ Error → ReadStep
step_of room (Ok count) = if nat_lt 0 room && (count == 0) then End else Bytes count
step_of room (Err error) = if is_passing (error_kind error) then Quiet else Failed

-- the answer that stands for an error at reading a file
abbrev pub unread_at : ErrorKind → FileRead
unread_at NotFound = file.Absent
unread_at OutOfMemory = file.NoMemory
unread_at kind = file.Failed

-- the answer that stands for what came of reading a file
abbrev pub file_read_of : Result (Vec ℕ Global) Error → FileRead
file_read_of (Ok bytes) = file.Found bytes
file_read_of (Err error) = unread_at (error_kind error)

-- what was found has at most so many bytes
abbrev pub IsFoundWithin : ℕ → FileRead → Type 0
IsFoundWithin most (file.Found bytes) = length bytes.items ≤ most
IsFoundWithin most answer = Unit {0}

-- what was taken stands behind what the writer held; where the write failed, some front of the piece
abbrev pub Carries : WriteStep → Option (List ℕ) → Option (List ℕ) → List ℕ → Type 0
Carries (write.Took count) old new piece = Appends old new (take count piece)
Carries write.Failed old new piece = (count : ℕ) × Appends old new (take count piece)
