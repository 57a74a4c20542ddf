-- The lives that an audit is told of. This project's own.
use Rattle.std.specs.Prelude.{◌≡◌, ℕ, List, [], ◌∷◌, ◌++◌, Option, Some, None, codes, decimal}
use Rattle.luigid.specs.declared.audit.LifeEnd.{LifeEnd}
use Rattle.luigid.specs.declared.audit.LifeEnd.TheVariants.{Stop, Full, Closed, Doors, Memory}
use Rattle.lg_desk.specs.declared.journal.Entry.{Entry}
use Rattle.lg_calls.specs.declared.state.State.{State}

-- a life: the state that it began with, and, once it has ended, its journal and how it ended
pub record LifeTold : Type 0 where
  pub base : State
  pub end : Option (List Entry × LifeEnd)

-- the last life has no end yet
abbrev pub HasOpenLife : List LifeTold → Type 0
HasOpenLife lives = (front : List LifeTold) × (base : State) × (lives ≡ front ++ record { base = base; end = None } ∷ [])

-- the lives, with that end for the last of them
abbrev pub ended_with : List Entry → LifeEnd → List LifeTold → List LifeTold
ended_with journal end [] = []
ended_with journal end (life ∷ []) = record life { end = Some (journal, end) } ∷ []
ended_with journal end (life ∷ next ∷ lives) = life ∷ ended_with journal end (next ∷ lives)

-- what is told of the lives after the last one ended, if they are told still
abbrev pub EndsLife : List Entry → LifeEnd → Option (List LifeTold) → Option (List LifeTold) → Type 0
EndsLife journal end old None = Unit {0}
EndsLife journal end None (Some new) = ⊥
EndsLife journal end (Some old) (Some new) = new ≡ ended_with journal end old

-- what stands behind the number in the line of a life
abbrev pub end_of_line : LifeEnd → List ℕ
end_of_line Stop = codes " stop" ++ 10 ∷ []
end_of_line Full = codes " full" ++ 10 ∷ []
end_of_line Closed = codes " closed" ++ 10 ∷ []
end_of_line Doors = codes " doors" ++ 10 ∷ []
end_of_line Memory = codes " memory" ++ 10 ∷ []

-- the line that the program writes of a life: how many calls it had, and how it ended
abbrev pub life_line : ℕ → LifeEnd → List ℕ
life_line calls end = codes "life " ++ decimal calls ++ end_of_line end
