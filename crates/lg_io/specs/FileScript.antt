-- What files in memory tell, from what they keep, and what they are to do. This project's own.
use Rattle.std.specs.Prelude.{◌≡◌, ℕ, ◌+◌, ◌-◌, ◌^◌, min, List, [], ◌∷◌, ◌++◌, Bool, IsTrue, Option, Some}
use Rattle.lg_io.specs.declared.memory.files.Appearance.{Appearance}
use Rattle.lg_io.specs.declared.memory.files.MemoryFiles.{MemoryFiles}
use Rattle.lg_io.specs.Appearances.{due_before, left_before, maps_with}
use Rattle.lg_io.specs.FaultPlan.{behind}
use Rattle.lg_io.specs.Files.{FileMap, FileAnswer, failed, FilesTold, present}

-- the maps that the files held
abbrev pub held_maps : {P : Type 0} → MemoryFiles P → List FileMap
held_maps files = files.history.maps

-- these maps, and the calls
abbrev pub files_told : {P : Type 0} → MemoryFiles P → Option FilesTold
files_told files = Some (record { maps = held_maps files; calls = files.history.calls })

-- how often a file that was to appear found no memory
abbrev pub late_files : {P : Type 0} → MemoryFiles P → ℕ
late_files files = files.late.met

-- how many calls failed, where their plan counts faults so; some wanted memory, or a file that isn't there
abbrev pub file_faults : {P : Type 0} → (P → ℕ) → MemoryFiles P → ℕ
file_faults faults files = faults files.plan + late_files files + files.shelf.wants.met

-- how many calls were made, to 2^64 - 1
abbrev pub calls_made : {P : Type 0} → MemoryFiles P → ℕ
calls_made files = files.calls

-- the files that are to appear
abbrev pub files_ahead : {P : Type 0} → MemoryFiles P → List Appearance
files_ahead files = files.coming.items

-- the calls that are to fail, where their plan makes these fail
abbrev pub files_fail : {P : Type 0} → (P → ℕ → Bool) → MemoryFiles P → ℕ → Bool
files_fail fails files = fails files.plan

-- the maps that are held once the files of the next call have appeared
abbrev pub grown_maps : {P : Type 0} → MemoryFiles P → List FileMap
grown_maps files =
    held_maps files ++ maps_with (present (held_maps files)) (due_before (calls_made files) (files_ahead files))

-- a call begins: whether it fails, and the files of its time have appeared, and no other, if each found memory
pub record BeginsByScript {P : Type 0} (due : P → ℕ → Bool) (old new : MemoryFiles P)
    (fails : Bool) : Type 0 where
  pub fails_then : IsTrue (files_fail due old 0) → IsTrue fails
  pub goes_on : files_fail due new ≡ behind (files_fail due old)
  pub counts : calls_made new ≡ min (calls_made old + 1) (2 ^ 64 - 1)
  pub late : due_before (calls_made old) (files_ahead old) ≡ [] → late_files new ≡ late_files old
  pub maps : late_files new ≡ late_files old → held_maps new ≡ grown_maps old
  pub ahead : late_files new ≡ late_files old → files_ahead new ≡ left_before (calls_made old) (files_ahead old)

-- One call: it fails where it is to. The files of its time have appeared, and no other, if each found memory.
pub record CallsByScript {P : Type 0} (due : P → ℕ → Bool) (old new : MemoryFiles P)
    (answer : FileAnswer) : Type 0 where
  pub fails : IsTrue (files_fail due old 0) → answer ≡ failed
  pub goes_on : files_fail due new ≡ behind (files_fail due old)
  pub counts : calls_made new ≡ min (calls_made old + 1) (2 ^ 64 - 1)
  pub late : due_before (calls_made old) (files_ahead old) ≡ [] → late_files new ≡ late_files old
  pub maps : late_files new ≡ late_files old → held_maps new ≡ grown_maps old ++ present (held_maps new) ∷ []
  pub ahead : late_files new ≡ late_files old → files_ahead new ≡ left_before (calls_made old) (files_ahead old)
