-- What a save asks of the files, call by call, and how it leaves the path. This project's own, after `lg_target`.
use Rattle.std.specs.Prelude.{◌≡◌, ◌≢◌, ℕ, ◌≤◌, ◌⊎◌, List, [], ◌∷◌, ◌++◌, length, Option, Some, None, Result, Ok, Err}
use Rattle.lg_io.specs.Files.{FileAnswer, AnsweredCall, FilesTold, make_folder, rename, remove, done, failed}
use Rattle.lg_io.specs.Tells.{TellsOn}
use Rattle.lg_snapshot.specs.declared.fault.SaveFault.{SaveFault}
use Rattle.lg_snapshot.specs.declared.fault.SaveFault.TheVariants.{Files, NoMemory}
use Rattle.lg_snapshot.specs.FileCalls.{done_call, TellsCalls, StopsAt}
use Rattle.lg_target.specs.Naming.{AsideFile, aside_name, folder_above}
use Rattle.lg_target.specs.Target.{IsOld, IsReplaced, maps_between, writing}

-- a folder is made, where there is one
abbrev pub making : List ℕ → FileAnswer → List AnsweredCall
making [] answer = []
making (byte ∷ bytes) answer = record { call = make_folder (byte ∷ bytes); answer = answer } ∷ []

-- bytes are written to a file aside, it is closed, and moved to the path
abbrev pub publishing : List ℕ → List ℕ → List ℕ → List AnsweredCall
publishing path aside bytes = writing aside (bytes ∷ []) ++ done_call (rename aside path) ∷ []

-- one of these calls fails, and the file aside is asked to be removed
pub record IsGivenUp (path aside bytes : List ℕ) (calls : List AnsweredCall) : Type 0 where
  pub made : List AnsweredCall
  pub stops : StopsAt (publishing path aside bytes) made
  pub removal : FileAnswer
  pub are : calls ≡ made ++ record { call = remove aside; answer = removal } ∷ []

-- there is a folder, and it is not made; nothing else is asked
abbrev pub HasNoFolder : List ℕ → List AnsweredCall → Type 0
HasNoFolder path calls = (folder_above path ≢ []) × (calls ≡ making (folder_above path) failed)

-- the folder is made, if there is one, and what is asked behind it is given up
abbrev pub IsGivenUpInside : List ℕ → List ℕ → List ℕ → List AnsweredCall → Type 0
IsGivenUpInside path aside bytes calls =
    (inside : List AnsweredCall) × IsGivenUp path aside bytes inside × (calls ≡ making (folder_above path) done ++ inside)

-- the numbers that a save draws and the calls that it makes, by its answer
abbrev pub AsksFor : List ℕ → List ℕ → List ℕ → List AnsweredCall → Result (Unit {0}) SaveFault → Type 0
AsksFor path bytes (number ∷ []) calls (Ok saved) =
    calls ≡ making (folder_above path) done ++ publishing path (aside_name path number) bytes
AsksFor path bytes (number ∷ []) calls (Err Files) =
    HasNoFolder path calls ⊎ IsGivenUpInside path (aside_name path number) bytes calls
AsksFor path bytes numbers calls (Err NoMemory) = (length numbers ≤ 1) × (calls ≡ [])
AsksFor path bytes numbers calls answer = ⊥

-- a save of these bytes, as numbers and files tell it
pub record Saves (path bytes : List ℕ) (undrawn drawn : Option (List ℕ)) (before after : Option FilesTold)
    (answer : Result (Unit {0}) SaveFault) : Type 0 where
  pub numbers : List ℕ
  pub draws : TellsOn undrawn drawn numbers
  pub calls : List AnsweredCall
  pub told : TellsCalls before calls after
  pub asks : AsksFor path bytes numbers calls answer

-- the path is replaced by the bytes where it is saved, and old where it isn't
abbrev pub Leaves : List ℕ → List ℕ → Option FilesTold → Option FilesTold → Result (Unit {0}) SaveFault → Type 0
Leaves path bytes None after answer = Unit {0}
Leaves path bytes (Some before) None answer = ⊥
Leaves path bytes (Some before) (Some after) (Ok saved) = IsReplaced path bytes (maps_between before after)
Leaves path bytes (Some before) (Some after) (Err fault) = IsOld path (maps_between before after)

-- what is asked of the files for a file aside is given up
abbrev pub GivesUp : AsideFile → List ℕ → Option FilesTold → Option FilesTold → Type 0
GivesUp aside bytes before after =
    (calls : List AnsweredCall) × IsGivenUp aside.path aside.name bytes calls × TellsCalls before calls after

-- bytes are published by a file aside, or given up
abbrev pub PublishesOrGivesUp : {T E : Type 0} → AsideFile → List ℕ → Option FilesTold → Option FilesTold → Result T E → Type 0
PublishesOrGivesUp aside bytes before after (Ok x) = TellsCalls before (publishing aside.path aside.name bytes) after
PublishesOrGivesUp aside bytes before after (Err e) = GivesUp aside bytes before after
