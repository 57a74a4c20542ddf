use Rattle.std.proofs.Common.{◌≡◌, not, ◌&&◌, take}
use Rattle.lg_calls.specs.Look.{tasks_at}
use Rattle.lg_calls.specs.Paths.{is_path_through}
use Rattle.lg_calls.specs.Upstream.{is_open, waits_for}
use Rattle.lg_views.proofs.UpstreamLemmas.{worst_by}
use Rattle.lg_views.proofs.upstream.worst_waited_for.Given as goal

abbrev pub invariant-loop-place : goal.invariant-loop-place
invariant-loop-place g l =
    l.worst ≡ worst_by (λ other. not (is_open other) && is_path_through waits_for (g.K.Look.state l.state).tasks l.task other) (tasks_at (take l.place (g.K.Look.shelf l.state)))
