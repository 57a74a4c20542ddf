-- A search for a value. This project's own.
use Rattle.std.specs.Prelude.{Option, MatchOption}

-- a value of which this holds, and none only where it holds of none
abbrev pub Finds : {V : Type 0} → (V → Type 0) → Option V → Type 0
Finds {V} P found = MatchOption found ((v : V) → ¬ P v) P
