-- When no range is asked for. This project's own, after Luigi's range tasks.
use Rattle.std.specs.Prelude.{Bool, not, false, ◌&&◌, ◌==◌, ◌∷◌, [], List, ℤ, Option, Some, is_none, int_lt, find}
use Rattle.std.specs.Option.{option_map}
use Rattle.lg_ranges.specs.declared.ask.Ask.{Ask}
use Rattle.lg_ranges.specs.declared.fault.AskFault.{AskFault}
use Rattle.lg_ranges.specs.declared.fault.AskFault.TheVariants.{NoBounds, NeedsReverse, StartAfterStop, ZeroLimit}

-- both are there, and the stop is below the start
abbrev pub is_behind : Option ℤ → Option ℤ → Bool
is_behind (Some start) (Some stop) = int_lt stop start
is_behind _ _ = false

-- the causes of refusal, in the order in which they are tried
abbrev pub causes : Ask → List (Bool × AskFault)
causes ask =
    (is_none ask.start && is_none ask.stop, NoBounds)
    ∷ (is_none ask.start && not ask.reverse, NeedsReverse)
    ∷ (is_behind ask.start ask.stop, StartAfterStop)
    ∷ (ask.limit == 0, ZeroLimit)
    ∷ []

-- the first that applies
abbrev pub fault_of : Ask → Option AskFault
fault_of ask = option_map (λ cause. cause.1) (find (λ cause. cause.0) (causes ask))
