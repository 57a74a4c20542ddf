-- When a step prunes, and what it does. This project's own, after Luigi's central scheduler.
use Rattle.std.specs.Prelude.{ℕ, ◌+◌, ◌||◌, nat_le, if◌then◌else◌, Bool, true, false, Option, Some, None}
use Rattle.lg_base.specs.declared.moment.Moment.{Moment}
use Rattle.lg_calls.specs.declared.request.Request.{Request}
use Rattle.lg_calls.specs.declared.request.Request.TheVariants.{GetWork, Prune}
use Rattle.lg_calls.specs.declared.settings.Settings.{Settings}
use Rattle.lg_calls.specs.declared.state.State.{State}

-- the time between two prunings, in milliseconds
abbrev pub prune_interval : ℕ
prune_interval = 60000

-- a request before which each step prunes
abbrev pub asks_for_pruning : Settings → Request → Bool
asks_for_pruning settings Prune = true
asks_for_pruning settings (GetWork ask) = settings.prune_on_get_work
asks_for_pruning settings _ = false

-- a pruning is due where the interval has passed since the last one, or the request asks for it
abbrev pub is_due : Moment → ℕ → Bool → Bool
is_due last now asked = nat_le (last.0 + prune_interval) now || asked

-- the moment is noted as that of the last pruning; nothing is forgotten
abbrev pub noted : State → ℕ → State
noted state now = record state { pruned = Some (record { 0 = now }) }

-- a pruning: in this build it forgets nothing, and its moment is noted
abbrev pub pruned : State → ℕ → State
pruned state now = noted state now

-- Where nothing was pruned yet the moment is noted, and nothing is pruned. Else the state is pruned where that is due since
-- the last pruning.
abbrev pub pruned_since : Option Moment → State → ℕ → Bool → State
pruned_since None state now asked = noted state now
pruned_since (Some last) state now asked = if is_due last now asked then pruned state now else state

-- the state at a moment, pruned if that is due
abbrev pub pruned_if_due : State → ℕ → Request → State
pruned_if_due state now request = pruned_since state.pruned state now (asks_for_pruning state.settings request)
