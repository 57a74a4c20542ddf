-- What a reading of a declaration answers. This project's own.
use Rattle.std.specs.Prelude.{◌≡◌, ◌≢◌, ℕ, List, Ok, Err, Vec}
use Rattle.std.specs.Borrow.{Bor}
use Rattle.std.specs.declared.alloc.Global.{Global}
use Rattle.toml.specs.Data.{Data}
use Rattle.toml.specs.View.{view}
use Rattle.toml.specs.declared.value.Value.{Value}
use Rattle.lg_declare.specs.Reading.{Read}
use Rattle.lg_declare.specs.declared.declare_fault.DeclareFault.{DeclareFault}
use Rattle.lg_declare.specs.declared.declare_fault.DeclareFault.TheVariants.{NoMemory}

-- the answer that is due, unless memory ran out
pub record Answers {A : Type 0} (result due : Read A) : Type 0 where
  pub told : result ≢ Err NoMemory → result ≡ due

-- the fault that is due, unless memory ran out
abbrev pub Faults : DeclareFault → DeclareFault → Type 0
Faults fault due = fault ≢ NoMemory → fault ≡ due

-- what was read, seen otherwise
abbrev pub seen : {A B : Type 0} → (A → B) → Read A → Read B
seen f (Ok x) = Ok (f x)
seen f (Err fault) = Err fault

abbrev pub list_in : {A : Type 0} → Read (Vec A Global) → Read (List A)
list_in result = seen (λ (values : Vec _ Global). values.items) result

-- each answer to an item, and to a member, is the one that is due
abbrev pub ReadsEach : {A : Type 0} → (Bor Value → Read A → Type 0) → (Data → Read A) → Type 0
ReadsEach {A} answers due = (value : Bor Value) (result : Read A) → answers value result → Answers result (due (view value.now))

abbrev pub ReadsEachMember : {A : Type 0} → (Bor (List ℕ) → Bor Value → Read A → Type 0) → (List ℕ → Data → Read A) → Type 0
ReadsEachMember {A} answers due =
    (key : Bor (List ℕ)) (value : Bor Value) (result : Read A) → answers key value result → Answers result (due key.now (view value.now))
