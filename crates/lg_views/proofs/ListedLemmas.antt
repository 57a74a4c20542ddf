-- Which states can be listed.
use Rattle.std.proofs.Common.{◌^◌, ◌<◌, Option, Some, None, arith, lit<}
use Rattle.lg_base.specs.declared.moment.Moment.{Moment}
use Rattle.lg_calls.specs.declared.state.State.{State}
use Rattle.lg_calls.specs.Valid.{NotLater, IsValidState}
use Rattle.lg_calls.proofs.CallerLemmas.{state-rise}
use Rattle.lg_views.specs.Listed.{last_moment, CanBeListed}

-- what isn't later than the moment of a state isn't later than the last one
not_later_than_last : (when : Option Moment) (now : Moment) → now.0 < 2 ^ 62 → NotLater when now → NotLater when last_moment
not_later_than_last None now before holds = tt
not_later_than_last (Some moment) now before holds = omega arith

-- a valid state can be listed
pub CanBeListed-valid : (s : State) → IsValidState s → CanBeListed s
CanBeListed-valid s valid =
    state-rise s last_moment s.pruned s.limits (omega (arith, valid.moment_in_range)) (lit< tt) (not_later_than_last s.pruned s.moment valid.moment_in_range valid.pruned_before) valid
