-- What a file is read as. This project's own.
use Rattle.std.specs.Prelude.{◌≡◌, ℕ, List, Option, Some, None, Result, Ok, Err, IfOk, IfSome}
use Rattle.std.specs.FinMap.{get}
use Rattle.lg_calls.specs.declared.settings.Settings.{Settings}
use Rattle.lg_calls.specs.declared.state.State.{State}
use Rattle.lg_io.specs.Files.{FileAnswer, FilesTold, TellsCall, read, found, absent, failed, no_memory, present}
use Rattle.lg_snapshot.specs.declared.fault.LoadFault.{LoadFault}
use Rattle.lg_snapshot.specs.declared.fault.LoadFault.TheVariants.{Files, NoMemory}
use Rattle.lg_snapshot.specs.Snapshot.{IsHeldState, IsSnapshotOf}

-- bytes are read as the state of which they are the snapshot, and as none only where there is no such state that memory
-- holds
pub record IsReadAs (settings : Settings) (bytes : List ℕ) (state : Option State) : Type 0 where
  pub is : IfSome state (λ s. IsSnapshotOf settings s bytes)
  pub only : (s : State) → IsHeldState s → IsSnapshotOf settings s bytes → state ≡ Some s

-- what is loaded, by what the files answered
abbrev pub IsLoaded : Settings → FileAnswer → Result (Option State) LoadFault → Type 0
IsLoaded settings (found bytes) (Ok state) = IsReadAs settings bytes state
IsLoaded settings (found bytes) (Err NoMemory) = Unit {0}
IsLoaded settings absent (Ok None) = Unit {0}
IsLoaded settings failed (Err Files) = Unit {0}
IsLoaded settings no_memory (Err NoMemory) = Unit {0}
IsLoaded settings answer loaded = ⊥

-- one read of the path, and what is loaded by its answer
pub record Loads (path : List ℕ) (settings : Settings) (before after : Option FilesTold)
    (loaded : Result (Option State) LoadFault) : Type 0 where
  pub answer : FileAnswer
  pub told : TellsCall before (read path) answer after
  pub is : IsLoaded settings answer loaded

-- what a file is read as, and none where there is no file
abbrev pub IsFileReadAs : Settings → Option (List ℕ) → Option State → Type 0
IsFileReadAs settings None state = state ≡ None
IsFileReadAs settings (Some bytes) state = IsReadAs settings bytes state

-- where files tell, what is loaded is what the file is read as that they hold at the path
abbrev pub LoadsHeld : List ℕ → Settings → Option FilesTold → Result (Option State) LoadFault → Type 0
LoadsHeld path settings None loaded = Unit {0}
LoadsHeld path settings (Some before) loaded =
    IfOk loaded (λ state. IsFileReadAs settings (get (present before.maps) path) state)
