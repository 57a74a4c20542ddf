-- What a call does to the journal of a life. This project's own.
use Rattle.std.specs.Prelude.{◌≡◌, List, [], ◌∷◌, ◌++◌, Result, Ok, Err}
use Rattle.lg_calls.specs.declared.engine.Reply.{Reply}
use Rattle.lg_calls.specs.declared.engine.StepFault.{StepFault}
use Rattle.lg_calls.specs.declared.engine.StepFault.TheVariants.{Full, NoMemory}
use Rattle.lg_desk.specs.declared.journal.Entry.{Entry}

-- the call is entered, also where the scheduler is full; where memory ran out it isn't
abbrev pub Enters : List Entry → Entry → List Entry → Result Reply StepFault → Type 0
Enters old entry new (Ok reply) = new ≡ old ++ entry ∷ []
Enters old entry new (Err (Full tasks)) = new ≡ old ++ entry ∷ []
Enters old entry new (Err NoMemory) = new ≡ old
