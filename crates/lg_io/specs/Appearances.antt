-- The files that a child makes beside files in memory. This project's own.
use Rattle.std.specs.Prelude.{◌≡◌, ℕ, List, [], ◌∷◌, ◌++◌, codes, nat_le, if◌then◌else◌}
use Rattle.std.specs.FinMap.{contains_key, insert}
use Rattle.lg_io.specs.declared.memory.files.Appearance.{Appearance}
use Rattle.lg_io.specs.Files.{FileMap}

-- the path at which a file appears
abbrev pub path_of : Appearance → List ℕ
path_of file = file.front ++ codes "-luigi-tmp-" ++ file.back

-- the files at the front of a list that are there before the call of this number
abbrev pub due_before : ℕ → List Appearance → List Appearance
due_before call [] = []
due_before call (file ∷ files) = if nat_le file.call call then file ∷ due_before call files else []

-- the files behind those
abbrev pub left_before : ℕ → List Appearance → List Appearance
left_before call [] = []
left_before call (file ∷ files) = if nat_le file.call call then left_before call files else file ∷ files

-- no file is there before the call of this number
pub record IsNoneDue (call : ℕ) (files : List Appearance) : Type 0 where
  pub none : due_before call files ≡ []
  pub all_left : left_before call files ≡ files

-- the map after a file has appeared
abbrev pub with_file : FileMap → Appearance → FileMap
with_file before file = insert before (path_of file) file.bytes.items

-- the maps as files appear in turn; one whose path is taken doesn't
abbrev pub maps_with : FileMap → List Appearance → List FileMap
maps_with before [] = []
maps_with before (file ∷ files) =
    if contains_key before (path_of file) then maps_with before files
    else with_file before file ∷ maps_with (with_file before file) files
