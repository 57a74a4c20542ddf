-- Files that appear one after another.
use Rattle.std.proofs.Common.{◌≡◌, ℕ, Bool, true, false, List, [], ◌∷◌, ◌++◌, ◌≢◌, refl, sym, ap, ◌∙◌, append_assoc, arith}
use Rattle.std.specs.Prelude.{length, nat_le, if◌then◌else◌}
use Rattle.std.specs.FinMap.{contains_key}
use Rattle.lg_io.specs.declared.memory.files.Appearance.{Appearance}
use Rattle.lg_io.specs.Appearances.{path_of, due_before, left_before, with_file, maps_with}
use Rattle.lg_io.specs.Files.{FileMap, present}
use Rattle.lg_io.proofs.Grown.{present-append}

-- the maps with one file and with others behind it, where its path is taken or not
maps_by : Bool → FileMap → Appearance → List Appearance → List FileMap
maps_by taken before file files =
    if taken then maps_with before files else with_file before file ∷ maps_with (with_file before file) files

by_cases : (taken : Bool) (before : FileMap) (file : Appearance) (files : List Appearance)
    → maps_by taken before file files ≡ maps_by taken before file [] ++ maps_with (present (before ∷ maps_by taken before file [])) files
unfolding maps_by
by_cases true before file files = refl
by_cases false before file files = refl

-- one file appears, and then the others
maps_with-cons : (before : FileMap) (file : Appearance) (files : List Appearance)
    → maps_with before (file ∷ files) ≡ maps_with before (file ∷ []) ++ maps_with (present (before ∷ maps_with before (file ∷ []))) files
unfolding maps_by
maps_with-cons before file files = by_cases (contains_key before (path_of file)) before file files

-- a file of a list has appeared, and the others are to
pub appear_next : (maps after : List FileMap) (file : Appearance) (files : List Appearance) → after ≡ maps ++ maps_with (present maps) (file ∷ [])
    → after ++ maps_with (present after) files ≡ maps ++ maps_with (present maps) (file ∷ files)
appear_next maps after file files is =
    let last : present after ≡ present (present maps ∷ maps_with (present maps) (file ∷ [])) = ap present is ∙ present-append maps (maps_with (present maps) (file ∷ [])) in
    rw (last, is, maps_with-cons (present maps) file files) (append_assoc maps (maps_with (present maps) (file ∷ [])) (maps_with (present (present maps ∷ maps_with (present maps) (file ∷ []))) files))

-- a file whose time has come is the next to appear
pub due_before-cons : (call : ℕ) (file : Appearance) (files : List Appearance) → nat_le file.call call ≡ true
    → due_before call (file ∷ files) ≡ file ∷ due_before call files
due_before-cons call file files due = ap (λ b. if b then file ∷ due_before call files else []) due

pub left_before-cons : (call : ℕ) (file : Appearance) (files : List Appearance) → nat_le file.call call ≡ true
    → left_before call (file ∷ files) ≡ left_before call files
left_before-cons call file files due = ap (λ b. if b then left_before call files else file ∷ files) due

-- a file of its time is due
pub due_before-some : (call : ℕ) (file : Appearance) (coming later : List Appearance) → coming ≡ file ∷ later → nat_le file.call call ≡ true
    → due_before call coming ≢ []
due_before-some call file coming later next due none =
    omega (arith, ap length (sym none ∙ ap (due_before call) next ∙ due_before-cons call file later due))
