-- What the functions that read a state answer. This project's own.
use Rattle.std.specs.Prelude.{◌≡◌, ℕ, ◌&&◌, if◌then◌else◌, List, Option, Some, None, option_and_then, Result, Ok, Err, IsUtf8}
use Rattle.std.specs.Str.{bytes_eq}
use Rattle.serde_json.specs.Read.{read}
use Rattle.serde_json.specs.View.{view}
use Rattle.serde_json.specs.declared.value.Value.{Value}
use Rattle.lg_calls.specs.declared.settings.Settings.{Settings}
use Rattle.lg_calls.specs.declared.state.State.{State}
use Rattle.lg_snapshot.specs.declared.entries.Unread.{Unread}
use Rattle.lg_snapshot.specs.declared.entries.Unread.TheVariants.{Other, NoMemory}
use Rattle.lg_snapshot.specs.Reading.{Answers, record_in}
use Rattle.lg_snapshot.specs.Snapshot.{snapshot_text}
use Rattle.lg_snapshot.specs.StateReading.{state}
use Rattle.lg_snapshot.specs.Validity.{passes}

-- the value that the bytes are; or they are none, or no text; or memory ran out
abbrev pub Parses : List ℕ → Result Value Unread → Type 0
Parses bytes (Ok value) = read bytes ≡ Some (view value)
Parses bytes (Err Other) = IsUtf8 bytes → read bytes ≡ None
Parses bytes (Err NoMemory) = Unit {0}

-- the state that the bytes say, where they are a text
abbrev pub Says : Settings → List ℕ → Result State Unread → Type 0
Says settings bytes said = IsUtf8 bytes → Answers said (option_and_then (record_in (state settings)) (read bytes))

-- the state, where it passes and has these bytes as its text
abbrev pub Checks : State → List ℕ → Option State → Type 0
Checks s bytes found = found ≡ (if passes s && bytes_eq (snapshot_text s) bytes then Some s else None)
