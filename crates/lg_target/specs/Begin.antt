-- What beginning a file aside asks, and when it is refused. This project's own.
use Rattle.std.specs.Prelude.{◌≡◌, ℕ, ◌<◌, ◌^◌, List, [], ◌∷◌, Option, Result, Ok, Err, IfOk}
use Rattle.lg_io.specs.Files.{FilesTold, TellsCall, make_folder, done, failed}
use Rattle.lg_io.specs.Tells.{TellsOn}
use Rattle.lg_target.specs.declared.fault.AsideFault.{AsideFault}
use Rattle.lg_target.specs.declared.fault.AsideFault.TheVariants as fault
use Rattle.lg_target.specs.Naming.{AsideFile, aside_of}

-- one number is drawn, and what is begun is the file aside of the path and that number
pub record NamesByDraw (path : List ℕ) (old new : Option (List ℕ)) (answer : Result AsideFile AsideFault) : Type 0 where
  pub number : ℕ
  pub in_range : number < 2 ^ 64
  pub drawn : TellsOn old new (number ∷ [])
  pub named : IfOk answer (λ aside. aside ≡ aside_of path number)

-- The files are asked to make the folder, if there is one, and nothing else; nothing at all where memory ran out.
abbrev pub MakesFolder : {A : Type 0} → List ℕ → Option FilesTold → Option FilesTold → Result A AsideFault → Type 0
MakesFolder folder old new (Err fault.NoMemory) = new ≡ old
MakesFolder [] old new (Ok made) = new ≡ old
MakesFolder [] old new (Err fault.Files) = ⊥
MakesFolder (byte ∷ bytes) old new (Ok made) = TellsCall old (make_folder (byte ∷ bytes)) done new
MakesFolder (byte ∷ bytes) old new (Err fault.Files) = TellsCall old (make_folder (byte ∷ bytes)) failed new
