-- The worst that a task can wait for. This project's own.
use Rattle.std.specs.Prelude.{Bool, true, false, Option, Some}
use Rattle.lg_calls.specs.declared.upstream.UpstreamStatus.{UpstreamStatus}
use Rattle.lg_calls.specs.declared.upstream.UpstreamStatus.TheVariants as U

-- a task is disabled
abbrev pub is_worst_of_all : Option UpstreamStatus → Bool
is_worst_of_all (Some U.Disabled) = true
is_worst_of_all _ = false
